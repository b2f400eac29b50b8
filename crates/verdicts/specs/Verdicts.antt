-- Verdicts: when a property is guaranteed, and which steps show that it is broken.
use Rattle.std.specs.Prelude.{◌≡◌, ℕ, ◌≤◌, Bool, T, ◌⊎◌, List, [], ◌∷◌, map, length}
use Rattle.access.specs.Operations.{has, read_op, write_op, become_op, any_op}
use Rattle.access.specs.Policy.{Meaning, Interaction, Allows}
use Rattle.verdicts.specs.Runs.{Grants, Over, Legal}
use Rattle.verdicts.specs.Activities.{Move, transition, transfer, contact, Does, Makes, Property, Forbids}

-- two lists, of which the members at each place are related
pub data Pairwise {A B : Type 0} (R : A → B → Type 0) : List A → List B → Type 0 where
  none : Pairwise R [] []
  also : {a : A} {b : B} {xs : List A} {ys : List B} → R a b → Pairwise R xs ys → Pairwise R (a ∷ xs) (b ∷ ys)

-- a legal run realises an activity: its interactions make the moves, one by one
pub record Realises (m : Meaning) (gs : Grants) (ms : List Move) : Type 0 where
  pub interactions : List Interaction
  pub makes : Pairwise Makes ms interactions
  pub legal : Legal m gs interactions

-- no legal run, of any length, realises one of the activities that are sought
abbrev pub NoneRealised : Meaning → Grants → (List Move → Type 0) → Type 0
NoneRealised m gs Sought = (ms : List Move) → Sought ms → Realises m gs ms → ⊥

-- each of them that a legal run realises has at least k moves
abbrev pub AtLeast : Meaning → Grants → (List Move → Type 0) → ℕ → Type 0
AtLeast m gs Sought k = (ms : List Move) → Sought ms → Realises m gs ms → k ≤ length ms

-- a property is guaranteed: no legal run realises an activity that it forbids
abbrev pub Guaranteed : Meaning → Grants → Property → Type 0
Guaranteed m gs p = NoneRealised m gs (Forbids m p)

-- some legal run makes an interaction
abbrev pub Possible : Meaning → Grants → Interaction → Type 0
Possible m gs i = Legal m gs (i ∷ [])

-- of the operations of s on t that pass a test, an interaction has the lowest that some run makes
pub record LowestPossible (m : Meaning) (gs : Grants) (s t : ℕ) (test : ℕ → Bool) (i : Interaction) : Type 0 where
  pub does : Does s t test i
  pub possible : Possible m gs i
  pub least : (j : Interaction) → Does s t test j → Possible m gs j → i.operation ≤ j.operation

-- no run makes an interaction of s on t by an operation that passes a test
abbrev pub NonePossible : Meaning → Grants → ℕ → ℕ → (ℕ → Bool) → Type 0
NonePossible m gs s t test = (j : Interaction) → Does s t test j → Possible m gs j → ⊥

-- the interaction by which a move is shown; a transfer by the giver's, or the taker's where the giver has none
abbrev pub Shown : Meaning → Grants → Move → Interaction → Type 0
Shown m gs (transition c d) i = LowestPossible m gs c d become_op i
Shown m gs (transfer g k) i = LowestPossible m gs g k write_op i ⊎ (NonePossible m gs g k write_op × LowestPossible m gs k g read_op i)
Shown m gs (contact s t) i = LowestPossible m gs s t any_op i

-- grant k gives an interaction
pub record Given (gs : Grants) (k : ℕ) (i : Interaction) : Type 0 where
  pub over : Over gs k i.subject i.target
  pub gives : T (has over.grant.operations i.operation)

-- an interaction's origin: 0 where the policy allows it, otherwise the lowest grant that gives it
abbrev pub Origin : Meaning → Grants → Interaction → ℕ → Type 0
Origin m gs i k =
    (Allows m i × (k ≡ 0))
    ⊎ ((Allows m i → ⊥) × Given gs k i × ((j : ℕ) → Given gs j i → k ≤ j))

-- a step: an interaction and where it comes from
pub record Step : Type 0 where
  pub interaction : Interaction
  pub origin : ℕ

-- a step shows a move
abbrev pub AsStep : Meaning → Grants → Move → Step → Type 0
AsStep m gs v s = Shown m gs v s.interaction × Origin m gs s.interaction s.origin

-- steps show one of the activities that are sought; a legal run has exactly their interactions; none that is realised is shorter
pub record ShortestShown (m : Meaning) (gs : Grants) (Sought : List Move → Type 0) (steps : List Step) : Type 0 where
  pub moves : List Move
  pub sought : Sought moves
  pub shown : Pairwise (AsStep m gs) moves steps
  pub legal : Legal m gs (map (λ (s : Step). s.interaction) steps)
  pub shortest : AtLeast m gs Sought (length steps)

-- a property is broken by steps: they show a shortest of the activities that it forbids and a legal run realises
abbrev pub Broken : Meaning → Grants → Property → List Step → Type 0
Broken m gs p steps = ShortestShown m gs (Forbids m p) steps
