-- The lowest possible operation that passes a test: that there is one, and how a set shows it.
use Rattle.std.proofs.Common.{◌≡◌, ℕ, zero, suc, ◌≤◌, Bool, ◌&&◌, T, [], ◌∷◌, sym, refl, ◌∙◌, subst, ⊎_elim, arith}
use Rattle.std.proofs.lemmas.Bool.{cases_lt, and_parts}
use Rattle.access.specs.Operations.{Lowest, has}
use Rattle.access.specs.Policy.{Meaning, Interaction}
use Rattle.verdicts.specs.Runs.{Grants}
use Rattle.verdicts.specs.Possible.{possible, any_below}
use Rattle.verdicts.specs.Verdicts.{LowestPossible}
use Rattle.access.proofs.Tests.{both, both_parts, either_part, cases_test}
use Rattle.verdicts.proofs.Bounded.{any_from}
use Rattle.verdicts.proofs.Reduction.{reduction}
use Rattle.verdicts.proofs.Moves.{doing, does_has}

-- the least number that passes a test
pub least : (test : ℕ → Bool) (k : ℕ) → T (any_below test k) → (o : ℕ) × T (test o) × ((j : ℕ) → T (test j) → o ≤ j)
least test zero h = elim h [ ]
least test (suc k) h =
    ⊎_elim
    (λ p. least test k p)
    (λ n. ⊎_elim (λ p. (k, p, λ j q. ⊎_elim (λ l. absurd (n (any_from test k j l q))) (λ g. g) (cases_lt j k))) (λ p. absurd (n p)) (either_part (test k) (any_below test k) h))
    (cases_test (any_below test k))

pub least_from : (test : ℕ → Bool) (k : ℕ) → T (test k) → (o : ℕ) × T (test o) × ((j : ℕ) → T (test j) → o ≤ j)
least_from test k h = least test (suc k) (any_from test (suc k) k (omega arith) h)

module _ (m : Meaning) (gs : Grants) where
  -- the least operation that passes a test and is possible is the lowest
  lowest_at : (s t : ℕ) (test : ℕ → Bool) (o : ℕ) → T (test o) → T (has (possible m gs s t) o) → ((j : ℕ) → T (test j) → T (has (possible m gs s t) j) → o ≤ j) → LowestPossible m gs s t test (doing s t o)
  lowest_at s t test o p q low =
      record {
        does = record { by = refl; on = refl; fits = p };
        possible = (reduction m gs (doing s t o ∷ [])).1 (q, tt);
        least = λ j w r. low j.operation w.fits (does_has m gs w ((reduction m gs (j ∷ [])).0 r).0);
      }

  pub lowest_exists : (s t : ℕ) (test : ℕ → Bool) (o : ℕ) → T (test o) → T (has (possible m gs s t) o) → (i : Interaction) × LowestPossible m gs s t test i
  lowest_exists s t test o p q =
      let both_test : ℕ → Bool = λ x. test x && has (possible m gs s t) x in
      let r = least_from both_test o (both (test o) (has (possible m gs s t) o) p q) in
      let c = both_parts (test r.0) (has (possible m gs s t) r.0) r.1 in
      (doing s t r.0, lowest_at s t test r.0 c.0 c.1 (λ j x y. r.2 j (both (test j) (has (possible m gs s t) j) x y)))

  -- the lowest of a set that holds just what is possible and passes the test
  pub lowest_in : (s t : ℕ) (test : ℕ → Bool) (set o : ℕ) → ((x : ℕ) → has set x ≡ (test x && has (possible m gs s t) x)) → Lowest set o → LowestPossible m gs s t test (doing s t o)
  lowest_in s t test set o is l =
      let c = and_parts (test o) (has (possible m gs s t) o) (sym (is o) ∙ l.held) in
      lowest_at s t test o (subst T (sym c.0) tt) (subst T (sym c.1) tt) (λ j x y.
      ⊎_elim (λ b. absurd (subst T (sym (is j) ∙ l.none_below j b) (both (test j) (has (possible m gs s t) j) x y))) (λ b. b) (cases_lt j o))
