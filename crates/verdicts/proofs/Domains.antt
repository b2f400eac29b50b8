-- Domains: guaranteed where no contact across can be made, and never broken in less than a step.
use Rattle.std.proofs.Common.{ℕ, ◌≤◌, Bool, T, List, length, ap, subst, arith}
use Rattle.std.specs.List.{AllByRecursion}
use Rattle.access.specs.Policy.{Meaning}
use Rattle.verdicts.specs.Runs.{Grants}
use Rattle.verdicts.specs.Activities.{Move, contact, domain, apart, Forbids}
use Rattle.verdicts.specs.Possible.{CanMake}
use Rattle.verdicts.specs.Verdicts.{Realises, Guaranteed}
use Rattle.verdicts.proofs.Moves.{realised}

module _ (m : Meaning) (gs : Grants) where
  pub domain_closed : (A : ℕ → Bool) → ((s t : ℕ) → T (apart A s t) → CanMake m gs (contact s t) → ⊥) → Guaranteed m gs (domain A)
  domain_closed A away ms f r = away f.subject f.target f.across (subst (AllByRecursion (CanMake m gs)) f.only ((realised m gs ms).0 r)).0

  pub domain_shortest : (A : ℕ → Bool) (ms : List Move) → Forbids m (domain A) ms → Realises m gs ms → 1 ≤ length ms
  domain_shortest A ms f r = omega (arith, ap length f.only)
