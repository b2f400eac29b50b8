-- The labels of contexts, one of them replaced.
use Rattle.std.proofs.Common.{◌≡◌, ℕ, ◌+◌, ◌<◌, ◌≤◌, min, true, ◌&&◌, ◌==◌, arith, ◌∙◌, if◌then◌else◌}
use mathlib.Core.Path.{fun_ext}
use Rattle.std.proofs.lemmas.Bool.Decides.{nat_tests}
use Rattle.access.specs.Contexts.{inside}
use Rattle.layers.specs.Labels.{label_of}
use Rattle.layers.specs.declared.labels.Labels.{Labels}
use Rattle.policy_text.specs.Lines.{with_label}

pub labelled : (old new : Labels) (k n label : ℕ) → k ≡ n + 1 → n < 256 → label ≤ 15 → ((c : ℕ) → label_of new c ≡ (if inside 256 k && c == k then min label 15 else label_of old c)) → label_of new ≡ with_label (label_of old) (n + 1) label
labelled old new k n label e room small told = fun_ext (λ c. told c ∙ at c)
  where
    at : (c : ℕ) → (if inside 256 k && c == k then min label 15 else label_of old c) ≡ with_label (label_of old) (n + 1) label c
    at c =
        let is_in : inside 256 (n + 1) ≡ true = grind (arith, nat_tests) in
        let capped : min label 15 ≡ label = omega arith in
        rw (e, is_in, capped)
