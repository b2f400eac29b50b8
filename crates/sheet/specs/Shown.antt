-- The book that a sheet shows, and what its calls answer.
use Rattle.std.specs.Prelude.{List, length, Some, None, Ok, Err, Option, Result}
use Rattle.access.specs.Policy.{Meaning}
use Rattle.access.specs.declared.refusal.Refusal.{Refusal}
use Rattle.sheet.specs.Held.{held}
use Rattle.sheet.specs.Undo.{undo}
use Rattle.sheet.specs.Book.{Opened, Book}
use Rattle.sheet.specs.declared.note.Note.{Note}
use Rattle.sheet.specs.declared.sheet.Sheet.{Sheet}
use Rattle.sheet.specs.declared.change.Change.{Change}
use Rattle.sheet.specs.declared.change.Undecided.{Undecided}

-- what the notes of an open change tell of it: undone, they give the written sets at its opening
abbrev pub opened : Option (List Note) → Meaning → Option Opened
opened None m = None
opened (Some notes) m = Some (record { copy = (undo notes m).written; notes = length notes })

-- the book that a sheet shows
abbrev pub shown : {P : Type 0} {policy : _} → Sheet P policy → Book
shown {P} {policy} sheet = record {
  policy = policy.meaning sheet.policy;
  settings = sheet.settings;
  grants = held sheet.grants;
  properties = held sheet.properties;
  change = opened sheet.change (policy.meaning sheet.policy);
}

-- opening answers a change
abbrev pub handed : Option Refusal → Result Change Refusal
handed None = Ok (record { opened = tt })
handed (Some why) = Err why

-- adopting and withdrawing spend the change, and hand it back where they are refused
abbrev pub spent : Change → Option Refusal → Result (Unit {0}) Undecided
spent change None = Ok tt
spent change (Some why) = Err (record { why = why; change = change })
