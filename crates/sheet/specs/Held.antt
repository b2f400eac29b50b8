-- What a table holds.
use Rattle.std.specs.Prelude.{ℕ}
use Rattle.sheet.specs.Entries.{Entries, listed}
use Rattle.sheet.specs.declared.table.Table.{Table}

-- under each number what the table has there
abbrev pub held : {E : Type 0} {n : ℕ} → Table E n → Entries E
held {E} {n} table = listed n table.entries
