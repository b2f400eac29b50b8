-- The chains of a record table, told by following the links.
use Rattle.std.specs.Prelude.{◌≡◌, ℕ, zero, suc, ◌≤◌}
use Rattle.record_table.specs.declared.chains.Record.{Record}
use Rattle.record_table.specs.Chains.{numbered, first_of}
use Rattle.record_table.specs.Laid.{Fit}
use Rattle.record_table.specs.declared.table.RecordTable.{RecordTable}

-- the number that so many links lead to
abbrev pub along : ℕ → (ℕ → Record) → ℕ → ℕ
along zero mem number = number
along (suc k) mem number = along k mem (mem number).next

-- some links lead from chain c's first number to x: record x is in the chain
abbrev pub On : (ℕ → ℕ) → (ℕ → Record) → ℕ → ℕ → Type 0
On first mem c x = ∥ ((k : ℕ) × (along k mem (first c) ≡ x)) ∥₁

-- record x is in one chain, and in no other
abbrev pub InOne : ℕ → (ℕ → ℕ) → (ℕ → Record) → ℕ → Type 0
InOne n first mem x = (c : ℕ) × (c ≤ n) × On first mem c x × ((d : ℕ) → d ≤ n → On first mem d x → d ≡ c)

pub record Chained (n : ℕ) (first : ℕ → ℕ) (mem : ℕ → Record) : Type 0 where
  -- every record is in exactly one chain, the unused one, 0, or that of a context
  pub one_chain : (x : ℕ) → 1 ≤ x → x ≤ 1024 → ∥ InOne n first mem x ∥₁
  -- every chain ends: its links lead to 0
  pub ended : (c : ℕ) → c ≤ n → On first mem c 0
  -- every link is a record's number, or 0
  pub heads_low : (c : ℕ) → c ≤ n → first c ≤ 1024
  pub links_low : (x : ℕ) → 1 ≤ x → x ≤ 1024 → (mem x).next ≤ 1024
  -- a record of a context's chain has a context as its target, and operations
  pub in_use : (c x : ℕ) → 1 ≤ c → c ≤ n → 1 ≤ x → On first mem c x → Fit n (mem x)
  -- a pair has at most one record
  pub one_record : (c x y : ℕ) → 1 ≤ c → c ≤ n → 1 ≤ x → 1 ≤ y → On first mem c x → On first mem c y → (mem x).target ≡ (mem y).target → x ≡ y

abbrev pub TableChained : RecordTable → Type 0
TableChained p = Chained p.contexts (first_of p.chains.heads) (numbered p.chains.slots)
