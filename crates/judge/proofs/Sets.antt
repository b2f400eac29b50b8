-- The sets that are made to search from one source.
use Rattle.std.proofs.Common.{◌≡◌, ℕ, zero, suc, ◌≤◌, Bool, true, false, not, ◌&&◌, ◌||◌, T, eqb, sym, ap, ◌∙◌, subst, ap₂, ⊎_elim, arith}
use mathlib.Core.Path.{fun_ext}
use Rattle.std.proofs.lemmas.Bool.{cases_eq, eq-eqb, ne_eqb, and_right}
use Rattle.access.specs.Contexts.{inside, member, some_to, empty}
use Rattle.access.specs.declared.context_set.ContextSet.{ContextSet}
use Rattle.access.proofs.Tests.{left, right, T_true}
use Rattle.access.proofs.ContextLaws.{inside_from, member_inside}
use Rattle.judge.specs.Plan.{among}

pub some_from : (n : ℕ) (p : ℕ → Bool) (d : ℕ) → 1 ≤ d → d ≤ n → T (p d) → T (some_to n p)
unfolding some_to
some_from zero p d h l t = absurd (omega arith)
some_from (suc n) p d h l t =
    ⊎_elim
    (λ (e : d ≡ suc n). left (p (suc n)) (some_to n p) (subst (λ x. T (p x)) e t))
    (λ (e : d ≡ suc n → ⊥). right (p (suc n)) (some_to n p) (some_from n p d h (omega arith) t))
    (cases_eq d (suc n))

-- an empty set has no member
pub none_in : (s : ContextSet) → true ≡ empty s → (c : ℕ) → T (member s c) → ⊥
none_in s e c h =
    let i = member_inside s c (T_true (member s c) h) in
    let some = T_true _ (some_from 256 (member s) c i.0 i.1 h) in
    subst T (e ∙ ap not some) tt

-- the set of one context
pub one_is : (n a : ℕ) (none one : ContextSet) → 1 ≤ a → a ≤ n → n ≤ 256 → ((d : ℕ) → member none d ≡ false) → ((d : ℕ) → member one d ≡ ((inside 256 a && eqb d a) || member none d)) → among n (member one) ≡ (λ c. eqb c a)
one_is n a none one low high few is_none is_one =
    fun_ext (λ d.
    ⊎_elim
    (λ (z : d ≡ a).
    ap₂ ◌&&◌ (inside_from n d (omega arith) (omega arith)) (is_one d ∙ ap (λ x. x || member none d) (ap₂ ◌&&◌ (inside_from 256 a low (omega arith)) (eq-eqb d a z)))
    ∙ sym (eq-eqb d a z))
    (λ (z : d ≡ a → ⊥).
    and_right (inside n d) (member one d) (is_one d ∙ ap₂ ◌||◌ (and_right (inside 256 a) (eqb d a) (ne_eqb d a z)) (is_none d))
    ∙ sym (ne_eqb d a z))
    (cases_eq d a))
