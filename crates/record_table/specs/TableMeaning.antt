-- What a record table means.
use Rattle.std.specs.Prelude.{◌≡◌, ℕ, ◌≤◌, cond, Some, None, Option}
use Rattle.access.specs.Operations.{set_of, any_op}
use Rattle.access.specs.Policy.{Matrix, Meaning}
use Rattle.access.specs.Contexts.{both_inside}
use Rattle.record_table.specs.Chains.{numbered, first_of, found, operations_at}
use Rattle.record_table.specs.declared.chains.Record.{Record}
use Rattle.record_table.specs.declared.table.RecordTable.{RecordTable}

-- the record of a pair
abbrev pub held : RecordTable → ℕ → ℕ → Option ℕ
held p s t = found (numbered p.chains.slots) t (first_of p.chains.heads s)

abbrev pub written_of : ℕ → (ℕ → ℕ) → (ℕ → Record) → Matrix
written_of n first mem s t = cond (both_inside n s t) (operations_at mem (found mem t (first s))) 0

-- all twelve operations on each pair of contexts
abbrev pub all_twelve : ℕ → Matrix
all_twelve n s t = cond (both_inside n s t) (set_of any_op 12) 0

abbrev pub chain_meaning : ℕ → (ℕ → ℕ) → (ℕ → Record) → Meaning
chain_meaning n first mem = record {
  contexts = n;
  capacity = 1024;
  written = written_of n first mem;
  permitted = all_twelve n;
}

abbrev pub table_meaning : RecordTable → Meaning
table_meaning p = chain_meaning p.contexts (first_of p.chains.heads) (numbered p.chains.slots)

-- a table with no pair
abbrev pub empty_table : ℕ → Meaning
empty_table n = record { contexts = n; capacity = 1024; written = λ s t. 0; permitted = all_twelve n }

-- the pair has record i
abbrev pub Has : RecordTable → ℕ → ℕ → ℕ → Type 0
Has p s t i = (held p s t ≡ Some i) × (1 ≤ i) × (i ≤ 1024)

-- the pair has no record
abbrev pub Lacks : RecordTable → ℕ → ℕ → Type 0
Lacks p s t = held p s t ≡ None

-- what was found is the pair's record
abbrev pub Own : RecordTable → ℕ → ℕ → Option ℕ → Type 0
Own p s t None = Lacks p s t
Own p s t (Some i) = Has p s t i

-- a pair of contexts
abbrev pub Pair : ℕ → ℕ → ℕ → Type 0
Pair n s t = (1 ≤ s) × (s ≤ n) × (1 ≤ t) × (t ≤ n)
