-- Which operations a layer leaves, in plain words.
use Rattle.std.specs.Prelude.{◌≡◌, ℕ, ◌≤◌, T, ◌↔◌}
use Rattle.access.specs.Operations.{has, read_op, write_op, execute_op}
use Rattle.access.specs.Policy.{Meaning, Interaction, holds}
use Rattle.layers.specs.Layers.{with_levels, with_owners}

abbrev pub Permits : Meaning → Interaction → Type 0
Permits m i = T (holds m.permitted i)

-- a subject reads no lower level, and neither writes to a higher level nor executes there
pub record RespectsLevels (level : ℕ → ℕ) (i : Interaction) : Type 0 where
  pub reading : T (read_op i.operation) → level i.subject ≤ level i.target
  pub writing : T (write_op i.operation) → level i.target ≤ level i.subject
  pub executing : T (execute_op i.operation) → level i.target ≤ level i.subject

-- the level layer permits what is permitted below and respects the levels, and nothing else
abbrev pub LevelLaw : Type 0
LevelLaw = (m : Meaning) (level : ℕ → ℕ) (i : Interaction) → Permits (with_levels m level) i ↔ (Permits m i × RespectsLevels level i)

-- a constrained operation stays with one owner
abbrev pub RespectsOwners : (ℕ → ℕ) → ℕ → Interaction → Type 0
RespectsOwners owner constrained i = T (has constrained i.operation) → owner i.subject ≡ owner i.target

abbrev pub OwnerLaw : Type 0
OwnerLaw = (m : Meaning) (owner : ℕ → ℕ) (constrained : ℕ) (i : Interaction) → Permits (with_owners m owner constrained) i ↔ (Permits m i × RespectsOwners owner constrained i)
