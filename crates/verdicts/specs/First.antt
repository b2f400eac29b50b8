-- Which of several activities that are equally short is shown: the first along their ways.
use Rattle.std.specs.Prelude.{◌≡◌, ℕ, ◌<◌, Bool, true, false, cond, ◌⊎◌, List, [], ◌∷◌, ◌++◌, flat_map, length}
use Rattle.access.specs.Policy.{Meaning}
use Rattle.verdicts.specs.Runs.{Grants}
use Rattle.verdicts.specs.Activities.{Move, transition, transfer, contact, Property, integrity, confidentiality, domain, consistency, Forbids}
use Rattle.verdicts.specs.Verdicts.{Realises, Step, ShortestShown}

-- by a pull or a flow information is fetched: the way leads back to where it comes from
abbrev pub fetches : Property → Bool
fetches (integrity A B) = false
fetches (confidentiality A B) = true
fetches (domain A) = false
fetches (consistency A B) = true

-- the moves of an activity that fetches, along its way: the transitions, and then the transfers, of which the last made comes first
abbrev pub fetching : List Move → List Move
fetching [] = []
fetching (transition c d ∷ ms) = transition c d ∷ fetching ms
fetching (transfer g k ∷ ms) = fetching ms ++ transfer g k ∷ []
fetching (contact s t ∷ ms) = contact s t ∷ fetching ms

-- the moves of an activity along its way
abbrev pub along_way : Bool → List Move → List Move
along_way back ms = cond back (fetching ms) ms

-- a move along the way in numbers: where it starts, 0 for a transition, 1 for a transfer or 2 for a contact, and where it leads
abbrev pub leg : Bool → Move → List ℕ
leg back (transition c d) = c ∷ 0 ∷ d ∷ []
leg back (transfer g k) = cond back (k ∷ 1 ∷ g ∷ []) (g ∷ 1 ∷ k ∷ [])
leg back (contact s t) = s ∷ 2 ∷ t ∷ []

-- the way of an activity in numbers
abbrev pub way : Bool → List Move → List ℕ
way back ms = flat_map (leg back) (along_way back ms)

-- where two lists of numbers part first, the one has the lower number
abbrev pub Lower : List ℕ → List ℕ → Type 0
Lower [] ys = ⊥
Lower (x ∷ xs) [] = ⊥
Lower (x ∷ xs) (y ∷ ys) = (x < y) ⊎ ((x ≡ y) × Lower xs ys)

-- of the activities that are sought and realised in as many moves, `moves` is the first: the way of each other one is higher
abbrev pub FirstOf : Meaning → Grants → (List Move → Type 0) → Bool → List Move → Type 0
FirstOf m gs Sought back moves = (ms : List Move) → Sought ms → Realises m gs ms → length ms ≡ length moves → (ms ≡ moves) ⊎ Lower (way back moves) (way back ms)

-- steps show the first of the shortest
pub record FirstShown (m : Meaning) (gs : Grants) (Sought : List Move → Type 0) (back : Bool) (steps : List Step) : Type 0 where
  pub shown : ShortestShown m gs Sought steps
  pub first : FirstOf m gs Sought back shown.moves

-- a property is broken, and these are the steps that are shown of it
abbrev pub BrokenBy : Meaning → Grants → Property → List Step → Type 0
BrokenBy m gs p steps = FirstShown m gs (Forbids m p) (fetches p) steps
