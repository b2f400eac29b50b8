-- What is written into lent memory.
use Rattle.std.specs.Prelude.{◌≡◌, ℕ, ◌+◌, ◌≤◌, List, ◌++◌, length, take, drop}
use Rattle.search.specs.declared.lent.List.{List as Lent}

-- so many bytes can still be written
abbrev pub Room : ℕ → Lent ℕ → Type 0
Room n report = report.len + n ≤ length report.items.now

-- bytes are written behind those that stand, and the memory behind them is as before
pub record Wrote (before : Lent ℕ) (bytes : List ℕ) (after : Lent ℕ) : Type 0 where
  pub lender : after.items.ghost_name ≡ before.items.ghost_name
  pub len : after.len ≡ before.len + length bytes
  pub sized : length after.items.now ≡ length before.items.now
  pub front : take after.len after.items.now ≡ take before.len before.items.now ++ bytes
  pub rest : drop after.len after.items.now ≡ drop after.len before.items.now
