-- Some number below a bound passes a test.
use Rattle.std.proofs.Common.{ℕ, zero, suc, ◌<◌, Bool, T, subst, inl, inr, ⊎_elim, arith}
use Rattle.std.proofs.lemmas.Bool.{cases_eq}
use Rattle.access.proofs.Tests.{left, right, either_part}
use Rattle.verdicts.specs.Possible.{any_below}

pub any_found : (test : ℕ → Bool) (k : ℕ) → T (any_below test k) → (o : ℕ) × (o < k) × T (test o)
any_found test zero h = elim h [ ]
any_found test (suc k) h = elim (either_part (test k) (any_below test k) h) [ inl p ↦ (k, omega arith, p) | inr q ↦ (let r = any_found test k q in (r.0, omega arith, r.2)) ]

pub any_from : (test : ℕ → Bool) (k o : ℕ) → o < k → T (test o) → T (any_below test k)
any_from test zero o b p = absurd (omega arith)
any_from test (suc k) o b p = ⊎_elim (λ e. left (test k) _ (subst (λ x. T (test x)) e p)) (λ n. right (test k) _ (any_from test k o (omega arith) p)) (cases_eq o k)
