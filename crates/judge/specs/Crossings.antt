-- Steps across the edge of a domain.
use Rattle.std.specs.Prelude.{ℕ, ◌<◌, ◌≤◌, Bool, T, Option, MatchOption}
use Rattle.access.specs.Policy.{Meaning}
use Rattle.verdicts.specs.Runs.{Grants}
use Rattle.verdicts.specs.Activities.{contact, apart}
use Rattle.verdicts.specs.Verdicts.{AsStep}
use Rattle.judge.specs.declared.step.Step.{Step}
use Rattle.judge.specs.Moved.{stepped, NoneMakes}

-- no contact of s with t goes across
abbrev pub NoneAcross : Meaning → Grants → (ℕ → Bool) → ℕ → ℕ → Type 0
NoneAcross m gs A s t = T (apart A s t) → NoneMakes m gs (contact s t)

-- a step shows a contact of s across the edge, on the first context on which there is one
pub record AcrossOn (m : Meaning) (gs : Grants) (A : ℕ → Bool) (s top : ℕ) (step : Step) : Type 0 where
  pub target : ℕ
  pub low : 1 ≤ target
  pub high : target ≤ top
  pub across : T (apart A s target)
  pub shown : AsStep m gs (contact s target) (stepped step)
  pub sooner : (t : ℕ) → 1 ≤ t → t < target → NoneAcross m gs A s t

-- such a step, if s has one on a context up to `top`
abbrev pub AcrossFrom : Meaning → Grants → (ℕ → Bool) → ℕ → ℕ → Option Step → Type 0
AcrossFrom m gs A s top r = MatchOption r ((t : ℕ) → 1 ≤ t → t ≤ top → NoneAcross m gs A s t) (AcrossOn m gs A s top)

-- a step shows the first contact across the edge: of the first context that has one
pub record Across (m : Meaning) (gs : Grants) (A : ℕ → Bool) (step : Step) : Type 0 where
  pub subject : ℕ
  pub low : 1 ≤ subject
  pub on : AcrossOn m gs A subject m.contexts step
  pub before : (s : ℕ) → 1 ≤ s → s < subject → (t : ℕ) → 1 ≤ t → t ≤ m.contexts → NoneAcross m gs A s t

-- such a step, if a context up to `top` has one on a context
abbrev pub AcrossAll : Meaning → Grants → (ℕ → Bool) → ℕ → Option Step → Type 0
AcrossAll m gs A top r = MatchOption r ((s : ℕ) → 1 ≤ s → s ≤ top → (t : ℕ) → 1 ≤ t → t ≤ m.contexts → NoneAcross m gs A s t) (Across m gs A)
