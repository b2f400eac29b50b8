-- What a policy means.
use Rattle.std.specs.Prelude.{ℕ, Bool, cond, ◌&&◌, T, ◌==◌}
use Rattle.access.specs.Operations.{has}

-- for each pair of a subject and a target, a set of operations
abbrev pub Matrix : Type 0
Matrix = ℕ → ℕ → ℕ

pub record Meaning : Type 0 where
  pub contexts : ℕ
  pub capacity : ℕ
  pub written : Matrix
  pub permitted : Matrix

-- a matrix with the set of one pair replaced
abbrev pub with_pair : Matrix → ℕ → ℕ → ℕ → Matrix
with_pair w s t set x y = cond (x == s && y == t) set (w x y)

abbrev pub with_written : Meaning → Matrix → Meaning
with_written m w = record { contexts = m.contexts; capacity = m.capacity; written = w; permitted = m.permitted }

abbrev pub with_permitted : Meaning → Matrix → Meaning
with_permitted m p = record { contexts = m.contexts; capacity = m.capacity; written = m.written; permitted = p }

-- a subject does an operation on a target
pub record Interaction : Type 0 where
  pub subject : ℕ
  pub target : ℕ
  pub operation : ℕ

-- whether a matrix has an interaction's operation on its pair
abbrev pub holds : Matrix → Interaction → Bool
holds w i = has (w i.subject i.target) i.operation

-- the policy allows an interaction: its operation is both written and permitted
pub record Allows (m : Meaning) (i : Interaction) : Type 0 where
  pub is_written : T (holds m.written i)
  pub is_permitted : T (holds m.permitted i)
