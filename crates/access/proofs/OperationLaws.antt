-- Sets of operations: the lowest one by trailing zeros, and sets given by a test.
use Rattle.std.proofs.Common.{◌≡◌, ℕ, zero, suc, ◌/◌, ◌%◌, ◌^◌, ◌<◌, ◌≤◌, Bool, true, false, cond, ◌&&◌, ◌||◌, T, eqb, ltb, Ok, Err, Result, sym, refl, ap, ◌∙◌, subst, ap₂, ⊎_elim, arith, eqb→eq, MatchOption}
use lib.Count.{count_trailing_zeros, under}
use lib.ListN.{get_or-eq_default}
use Rattle.std.proofs.lemmas.Bool.{cases_eq, cases_lt}
use Rattle.std.proofs.lemmas.Bool.Decides.{nat_tests}
use Rattle.std.specs.Result.{result_ok}
use Rattle.access.specs.Operations.{number_of, Numbered, kinds, kind_of, has, set_of, Lowest, LacksAll}
use Rattle.access.specs.declared.operation.Kind.{Kind}
use Rattle.access.specs.declared.operation.Kind.TheVariants.{Neither}
use Rattle.access.specs.declared.operation.Operation.{Operation}
use Rattle.access.specs.declared.operation.UnknownOperation.{UnknownOperation}
use Rattle.access.proofs.Bits.{has_zero, has_suc, has_or, has_none, has_power}
use Rattle.access.proofs.Tests.{T_true, T_false}

-- ---- `trailing_zeros` finds the lowest operation

under_most : (d t : ℕ) → under d t ≤ suc t
under_most zero t = omega arith
under_most (suc d) t = omega arith

pub trailing_has : (k n : ℕ) → count_trailing_zeros k n < k → T (has n (count_trailing_zeros k n))
unfolding count_trailing_zeros
trailing_has zero n h = absurd (omega arith)
trailing_has (suc k) n h = go (count_trailing_zeros k (n / 2)) (trailing_has k (n / 2)) (n % 2) refl h
  where
    go : (t : ℕ) → (t < k → T (has (n / 2) t)) → (d : ℕ) → n % 2 ≡ d → under d t < suc k → T (has n (under d t))
    go t ih zero e p = subst T (sym (has_suc n t)) (ih (omega arith))
    go t ih (suc d) e p = let f : n % 2 ≡ 1 = omega arith in subst T (sym (has_zero n ∙ ap (λ x. eqb x 1) f)) tt

pub trailing_below : (k n o : ℕ) → T (has n o) → o < k → count_trailing_zeros k n ≤ o
unfolding count_trailing_zeros
trailing_below zero n o h b = absurd (omega arith)
trailing_below (suc k) n zero h b = subst (λ d. under d (count_trailing_zeros k (n / 2)) ≤ 0) (sym (eqb→eq (n % 2) 1 (subst T (has_zero n) h))) (omega arith)
trailing_below (suc k) n (suc o) h b =
    let ih = trailing_below k (n / 2) o (subst T (has_suc n o) h) (omega arith) in
    omega (arith, under_most (n % 2) (count_trailing_zeros k (n / 2)))

-- together: the trailing zeros are the lowest member
pub trailing_lowest : (k n o : ℕ) → T (has n o) → o < k → T (has n (count_trailing_zeros k n)) × (count_trailing_zeros k n ≤ o)
trailing_lowest k n o h b = let l = trailing_below k n o h b in (trailing_has k n (omega arith), l)

pub number_below : (o : Operation) → number_of o < 12
number_below o = grind arith

-- no operation below the trailing zeros is in the set
none_under : (set k o : ℕ) → o < count_trailing_zeros k set → o < k → has set o ≡ false
none_under set k o l b = T_false (has set o) (λ h. omega (arith, trailing_below k set o h b))

pub lowest_told : (set : ℕ) (r : Result Operation UnknownOperation) → Numbered (count_trailing_zeros 16 set) r → MatchOption (result_ok r) (LacksAll set) (λ o. Lowest set (number_of o))
lowest_told set (Err e) h = λ o b. none_under set 16 o (omega (arith, h)) (omega arith)
lowest_told set (Ok o) h =
    let b = number_below o in
    record {
      held = T_true (has set (number_of o)) (subst (λ k. T (has set k)) (sym h) (trailing_has 16 set (omega arith)));
      none_below = λ k l. none_under set 16 k (omega arith) (omega arith);
    }

-- ---- a set given by a test

has_cond : (b : Bool) (k o : ℕ) → has (cond b (2 ^ k) 0) o ≡ (b && eqb k o)
has_cond true k o = has_power k o
has_cond false k o = has_none o

pub has_set_of : (test : ℕ → Bool) (k o : ℕ) → has (set_of test k) o ≡ (ltb o k && test o)
has_set_of test zero o = has_none o ∙ grind (arith, nat_tests)
has_set_of test (suc k) o =
    has_or (cond (test k) (2 ^ k) 0) (set_of test k) o ∙ ap₂ ◌||◌ (has_cond (test k) k o) (has_set_of test k o) ∙ ⊎_elim (λ (e : o ≡ k). grind (arith, nat_tests)) (λ (n : o ≡ k → ⊥). grind (arith, nat_tests)) (cases_eq o k)

-- an operation of a kind that `Neither` is not of is one of the twelve
pub kind_below : (test : Kind → Bool) (o : ℕ) → (T (test Neither) → ⊥) → T (test (kind_of o)) → o < 12
kind_below test o n h = ⊎_elim (λ p. p) (λ q. absurd (n (subst (λ k. T (test k)) (get_or-eq_default kinds Neither q) h))) (cases_lt o 12)

-- a set of the operations of some kinds holds exactly those
pub has_kinds : (test : Kind → Bool) (o : ℕ) → (T (test Neither) → ⊥) → has (set_of (λ x. test (kind_of x)) 12) o ≡ test (kind_of o)
has_kinds test o n = has_set_of (λ x. test (kind_of x)) 12 o ∙ go (test (kind_of o)) (kind_below test o n)
  where
    go : (b : Bool) → (T b → o < 12) → (ltb o 12 && b) ≡ b
    go true f = let h = f tt in grind (arith, nat_tests)
    go false f = grind (arith, nat_tests)
