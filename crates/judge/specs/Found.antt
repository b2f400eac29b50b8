-- What a search for activities answers, whichever activities are sought.
use Rattle.std.specs.Prelude.{◌≡◌, ℕ, ◌≤◌, Bool, List, map, length, take, drop, Option, MatchOption}
use Rattle.access.specs.Policy.{Meaning}
use Rattle.verdicts.specs.Runs.{Grants}
use Rattle.verdicts.specs.Activities.{Move, Between}
use Rattle.verdicts.specs.Verdicts.{Realises, NoneRealised, AtLeast, Step as Stepping}
use Rattle.verdicts.specs.First.{FirstShown}
use Rattle.judge.specs.declared.step.Step.{Step}
use Rattle.judge.specs.Moved.{stepped}

-- the activities of a kind that lead from a member of A to a member of B
abbrev pub Leads : (ℕ → ℕ → List Move → Type 0) → (ℕ → Bool) → (ℕ → Bool) → List Move → Type 0
Leads activities A B ms = Between A B (λ a b. activities a b ms)

-- the first k steps, as the definitions have them
abbrev pub first_steps : ℕ → List Step → List Stepping
first_steps k ss = map stepped (take k ss)

-- k steps stand in front, no more than contexts, and show the first of the shortest of those activities that a legal run realises
pub record Found (m : Meaning) (gs : Grants) (Sought : List Move → Type 0) (back : Bool) (ss : List Step) (k : ℕ) : Type 0 where
  pub first : FirstShown m gs Sought back (first_steps k ss)
  pub count : length (first_steps k ss) ≡ k
  pub few : k ≤ m.contexts

-- how many moves the shortest of them has, if one is realised
pub record Shortest (m : Meaning) (gs : Grants) (Sought : List Move → Type 0) (k : ℕ) : Type 0 where
  pub moves : List Move
  pub sought : Sought moves
  pub realises : Realises m gs moves
  pub count : length moves ≡ k
  pub shortest : AtLeast m gs Sought k

abbrev pub Measured : Meaning → Grants → (List Move → Type 0) → Option ℕ → Type 0
Measured m gs Sought r = MatchOption r (NoneRealised m gs Sought) (Shortest m gs Sought)

-- what a search answers, with the lent steps before and after
abbrev pub Searched : Meaning → Grants → (List Move → Type 0) → Bool → List Step → List Step → Option ℕ → Type 0
Searched m gs Sought back ss ss' r =
    MatchOption r (NoneRealised m gs Sought × (ss' ≡ ss)) (λ k. Found m gs Sought back ss' k × (drop k ss' ≡ drop k ss))
