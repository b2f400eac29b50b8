-- Sets of contexts that are collected one context after another.
use Rattle.std.proofs.Common.{◌≡◌, ℕ, ◌+◌, ◌<◌, Bool, true, false, ◌&&◌, ◌||◌, eqb, sym, refl, ap, ◌∙◌, ap₂, ⊎_elim, arith}
use Rattle.std.proofs.lemmas.Bool.{cases_eq, eq-eqb, ne_eqb, and_left, and_right}
use Rattle.std.proofs.lemmas.Bool.Decides.{nat_tests}
use Rattle.access.specs.Contexts.{inside, member}
use Rattle.access.specs.declared.context_set.ContextSet.{ContextSet}
use Rattle.access.proofs.ContextLaws.{inside_from, outside_from}
use Rattle.judge.specs.Contextual.{IsSetOf}

-- the set has the contexts from 1 to k that pass a test
abbrev pub Collected : (ℕ → Bool) → ℕ → ContextSet → Type 0
Collected p k = IsSetOf (λ d. inside k d && p d)

pub collected_none : (p : ℕ → Bool) (set : ContextSet) → IsSetOf (λ _. false) set → Collected p 0 set
collected_none p set none d = none d ∙ sym (ap (λ x. x && p d) (outside_from 0 d (λ l h. omega (arith, l, h))))

-- one context more, if it passed
pub collect : (p : ℕ → Bool) (k : ℕ) (set more : ContextSet) (passed : Bool) → k < 256 → Collected p k set
    → ((d : ℕ) → member more d ≡ ((passed && (inside 256 (k + 1) && eqb d (k + 1))) || member set d)) → passed ≡ p (k + 1) → Collected p (k + 1) more
collect p k set more passed few so is e d =
    ⊎_elim
    (λ (z : d ≡ k + 1).
    let first = ap₂ ◌&&◌ (inside_from 256 (k + 1) (omega arith) (omega arith)) (eq-eqb d (k + 1) z) in
    let not_yet = so d ∙ and_left (inside k d) (p d) (outside_from k d (λ l h. omega (arith, h))) in
    is d ∙ ap₂ (λ x y. (passed && x) || y) first not_yet ∙ only passed ∙ e ∙ ap p (sym z) ∙ sym (ap (λ x. x && p d) (inside_from (k + 1) d (omega arith) (omega arith))))
    (λ (z : d ≡ k + 1 → ⊥).
    let same : inside k d ≡ inside (k + 1) d = grind (arith, nat_tests) in
    is d ∙ ap (λ x. x || member set d) (and_right passed _ (and_right (inside 256 (k + 1)) (eqb d (k + 1)) (ne_eqb d (k + 1) z))) ∙ so d ∙ ap (λ x. x && p d) same)
    (cases_eq d (k + 1))
  where
    only : (b : Bool) → ((b && true) || false) ≡ b
    only true = refl
    only false = refl
