-- What stands behind the steps is as before.
use Rattle.std.proofs.Common.{◌≡◌, ℕ, ◌+◌, List, length, drop, sym, ◌∙◌, ap, ◌-◌, arith}
use Rattle.std.proofs.lemmas.List.{ext_get_or, get_or-drop, length-drop}
use Rattle.judge.specs.declared.step.Step.{Step}
use Rattle.judge.specs.Traced.{blank, SameFrom}

pub same_rest : (k : ℕ) (xs ys : List Step) → length ys ≡ length xs → SameFrom k xs ys → drop k ys ≡ drop k xs
same_rest k xs ys e h =
    ext_get_or blank (drop k ys) (drop k xs) (length-drop k ys ∙ ap (λ n. n - k) e ∙ sym (length-drop k xs)) (λ i _. get_or-drop k ys i blank ∙ h (k + i) (omega arith) ∙ sym (get_or-drop k xs i blank))
