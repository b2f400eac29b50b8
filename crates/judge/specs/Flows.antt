-- The nearest source of a flow that a consistency property forbids.
use Rattle.std.specs.Prelude.{ℕ, suc, ◌<◌, ◌≤◌, Bool, cond, not, ◌&&◌, T, List, Some, None, Option, MatchOption, nat_eq, nat_lt}
use Rattle.access.specs.Policy.{Meaning}
use Rattle.verdicts.specs.Runs.{Grants}
use Rattle.verdicts.specs.Activities.{Move, Flow}
use Rattle.judge.specs.Done.{reads_alone}
use Rattle.verdicts.specs.Verdicts.{NoneRealised, AtLeast}
use Rattle.judge.specs.Found.{Leads, Shortest}
use Rattle.judge.specs.declared.nearest.Near.{Near}

-- whether b is in B, and the policy alone does not let a read it
abbrev pub is_unread : Meaning → (ℕ → Bool) → ℕ → ℕ → Bool
is_unread m B a b = B b && not (reads_alone m a b)

-- the flows from a to a context of B that the policy alone does not let it read
abbrev pub From : Meaning → (ℕ → Bool) → ℕ → List Move → Type 0
From m B a = Leads Flow (λ c. nat_eq c a) (is_unread m B a)

-- of the sources up to `top`, the nearest, and the first of those that are as near
pub record Nearest (m : Meaning) (gs : Grants) (A B : ℕ → Bool) (top : ℕ) (q : Near) : Type 0 where
  pub first : 1 ≤ q.source
  pub last : q.source ≤ top
  pub member : T (A q.source)
  pub found : Shortest m gs (From m B q.source) q.steps
  pub least : (a : ℕ) → 1 ≤ a → a ≤ top → T (A a) → AtLeast m gs (From m B a) q.steps
  pub farther : (a : ℕ) → 1 ≤ a → a < q.source → T (A a) → AtLeast m gs (From m B a) (suc q.steps)

-- the nearest source, if a flow leads from one
abbrev pub Best : Meaning → Grants → (ℕ → Bool) → (ℕ → Bool) → ℕ → Option Near → Type 0
Best m gs A B top r = MatchOption r ((a : ℕ) → 1 ≤ a → a ≤ top → T (A a) → NoneRealised m gs (From m B a)) (Nearest m gs A B top)

-- the nearer of the best so far and one more source
abbrev pub nearer_of : Option Near → ℕ → Option ℕ → Option Near
nearer_of best a None = best
nearer_of None a (Some k) = Some (record { source = a; steps = k })
nearer_of (Some q) a (Some k) = cond (nat_lt k q.steps) (Some (record { source = a; steps = k })) (Some q)
