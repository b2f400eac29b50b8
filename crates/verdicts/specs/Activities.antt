-- Moves, activities as chains of moves, and the activities that each template forbids.
use Rattle.std.specs.Prelude.{◌≡◌, ℕ, Bool, cond, not, T, ◌⊎◌, List, [], ◌∷◌, ◌++◌}
use Rattle.access.specs.Operations.{read_op, write_op, become_op, any_op}
use Rattle.access.specs.Policy.{Meaning, Interaction, Allows}

-- a move: c takes on the context d, g gives information to k, or s does something on t
pub data Move : Type 0 where
  transition : ℕ → ℕ → Move
  transfer : ℕ → ℕ → Move
  contact : ℕ → ℕ → Move

-- an interaction of s on t, by an operation that passes a test
pub record Does (s t : ℕ) (test : ℕ → Bool) (i : Interaction) : Type 0 where
  pub by : i.subject ≡ s
  pub on : i.target ≡ t
  pub fits : T (test i.operation)

-- one interaction makes a move; in a transfer the giver writes to the taker, or the taker reads from the giver
abbrev pub Makes : Move → Interaction → Type 0
Makes (transition c d) i = Does c d become_op i
Makes (transfer g k) i = Does g k write_op i ⊎ Does k g read_op i
Makes (contact s t) i = Does s t any_op i

-- a chain of moves of one sort, perhaps of none, from one context to another
pub data Chain (move : ℕ → ℕ → Move) : ℕ → ℕ → List Move → Type 0 where
  same : {c : ℕ} → Chain move c c []
  next : {c d : ℕ} {ms : List Move} (b : ℕ) → Chain move c d ms → Chain move b d (move b c ∷ ms)

-- moves in working order: transitions from a to some context, and then the transfers that go on from there
pub record Becoming (a : ℕ) (Then : ℕ → List Move → Type 0) (ms : List Move) : Type 0 where
  pub via : ℕ
  pub transitions : List Move
  pub transfers : List Move
  pub becomes : Chain transition a via transitions
  pub goes : Then via transfers
  pub order : ms ≡ transitions ++ transfers

-- a push from a to b: the information goes from where the transitions end to b
abbrev pub Push : ℕ → ℕ → List Move → Type 0
Push a b = Becoming a (λ via ms. Chain transfer via b ms)

-- a pull from a to b: the information comes from b to where the transitions end
abbrev pub Pull : ℕ → ℕ → List Move → Type 0
Pull a b = Becoming a (λ via ms. Chain transfer b via ms)

-- a flow from a to b: a pull without transitions
abbrev pub Flow : ℕ → ℕ → List Move → Type 0
Flow a b ms = Chain transfer b a ms

-- a property: a template with its sets of contexts
pub data Property : Type 0 where
  integrity : (ℕ → Bool) → (ℕ → Bool) → Property
  confidentiality : (ℕ → Bool) → (ℕ → Bool) → Property
  domain : (ℕ → Bool) → Property
  consistency : (ℕ → Bool) → (ℕ → Bool) → Property

-- the policy alone, grants left aside, allows a to read b
pub record ReadsDirectly (m : Meaning) (a b : ℕ) : Type 0 where
  pub operation : ℕ
  pub reads : T (read_op operation)
  pub allowed : Allows m (record { subject = a; target = b; operation = operation })

-- something holds from a member of A to a member of B
pub record Between (A B : ℕ → Bool) (P : ℕ → ℕ → Type 0) : Type 0 where
  pub from : ℕ
  pub to : ℕ
  pub from_in : T (A from)
  pub to_in : T (B to)
  pub holds : P from to

-- exactly one of two contexts is in a set
abbrev pub apart : (ℕ → Bool) → ℕ → ℕ → Bool
apart A s t = cond (A s) (not (A t)) (A t)

-- a single contact with exactly one end in A
pub record Crossing (A : ℕ → Bool) (ms : List Move) : Type 0 where
  pub subject : ℕ
  pub target : ℕ
  pub across : T (apart A subject target)
  pub only : ms ≡ contact subject target ∷ []

-- the activities that a property forbids
abbrev pub Forbids : Meaning → Property → List Move → Type 0
Forbids m (integrity A B) ms = Between A B (λ a b. Push a b ms)
Forbids m (confidentiality A B) ms = Between A B (λ a b. Pull a b ms)
Forbids m (domain A) ms = Crossing A ms
Forbids m (consistency A B) ms = Between A B (λ a b. Flow a b ms × (ReadsDirectly m a b → ⊥))
