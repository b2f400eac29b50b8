-- What is written of an activity that was found, where `way d` is its node at depth d.
use Rattle.std.specs.Prelude.{◌≡◌, ℕ, suc, ◌<◌, ◌≤◌, Bool, List, slice_index_or}
use Rattle.access.specs.declared.operation.Operation.TheVariants.{Read}
use Rattle.access.specs.Policy.{Meaning}
use Rattle.verdicts.specs.Runs.{Grants}
use Rattle.verdicts.specs.Activities.{Move}
use Rattle.verdicts.specs.Searches.{Search}
use Rattle.verdicts.specs.Verdicts.{AsStep}
use Rattle.judge.specs.declared.step.Step.{Step}
use Rattle.judge.specs.Moved.{stepped}
use Rattle.judge.specs.Nodes.{phase, move_of, slot}

abbrev pub blank : Step
blank = record { subject = 0; target = 0; operation = Read; origin = 0 }

abbrev pub Shows : Meaning → Grants → Move → Step → Type 0
Shows m gs v s = AsStep m gs v (stepped s)

-- from depth `turn` on the way is in the last phase
pub record Turned (kind : Search) (n : ℕ) (way : ℕ → ℕ) (k turn : ℕ) : Type 0 where
  pub within : turn ≤ k
  pub early : (d : ℕ) → d < turn → suc (phase n (way (suc d))) < kind.phases
  pub late : (d : ℕ) → turn ≤ d → d < k → suc (phase n (way (suc d))) ≡ kind.phases

-- the moves from the depths between `left` and k are shown, each at its slot
abbrev pub ShownFrom : Search → Meaning → Grants → Bool → (ℕ → ℕ) → ℕ → ℕ → ℕ → List Step → Type 0
ShownFrom kind m gs back way turn k left ss =
    (d : ℕ) → left ≤ d → d < k → Shows m gs (move_of kind m.contexts (way d) (way (suc d))) (slice_index_or ss (slot back turn k d) blank)

-- the whole way is shown, from the turn on in reverse where it goes backwards
pub record Traced (kind : Search) (m : Meaning) (gs : Grants) (back : Bool) (way : ℕ → ℕ) (k : ℕ) (ss : List Step) : Type 0 where
  pub turn : ℕ
  pub turned : Turned kind m.contexts way k turn
  pub shown : ShownFrom kind m gs back way turn k 0 ss

-- the steps from k on are as before
abbrev pub SameFrom : ℕ → List Step → List Step → Type 0
SameFrom k ss ss' = (j : ℕ) → k ≤ j → slice_index_or ss' j blank ≡ slice_index_or ss j blank
