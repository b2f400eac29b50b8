-- What the reader of the program holds.
use Rattle.std.specs.Prelude.{◌≡◌, List, Ok, Err, Result, IsOkAnd, T}
use Rattle.layers.specs.Labels.{label_of}
use Rattle.sheet.specs.Shown.{shown}
use Rattle.sheet.specs.declared.request.Request.{Request}
use Rattle.words.specs.declared.flaw.Flaw.{Flaw}
use Rattle.policy_text.specs.Reading.{Reading, book_of, has_call}
use Rattle.policy_text.specs.declared.head.Head.{Head}
use Rattle.policy_text.specs.declared.controller.Controller.{Controller}
use Rattle.policy_text.specs.declared.reader.Reader.{Reader}

-- what a head says, with calls behind it
abbrev pub reading : Head → List Request → Reading
reading head calls = record { names = head.names; level = label_of head.levels; owner = label_of head.owners; constrained = head.constrained.bits; calls = calls }

-- what is left behind, or the flaw that was met
abbrev pub after : Result (Unit {0}) Flaw → Reading → Result Reading Flaw
after (Ok done) p = Ok p
after (Err flaw) p = Err flaw

-- a reader holds what was read; the sheet is laid out at the first call
pub record Holds (p : Reading) (reader : Reader) : Type 0 where
  pub says : p ≡ reading reader.head p.calls
  pub called : reader.called ≡ has_call p
  pub shows : T reader.called → shown reader.sheet ≡ book_of p

-- a reader holds what was read, and its sheet is laid out
pub record Opened (p : Reading) (reader : Reader) : Type 0 where
  pub says : p ≡ reading reader.head p.calls
  pub called : T reader.called
  pub shows : shown reader.sheet ≡ book_of p

-- the reader holds what a line makes of what it held, or answers the line's flaw
abbrev pub Follows : Result Reading Flaw → Result (Unit {0}) Flaw → Reader → Type 0
Follows (Ok p) result reader = (result ≡ Ok tt) × Holds p reader
Follows (Err flaw) result reader = result ≡ Err flaw

-- a controller as it was read: the names, and a sheet that shows the book
pub record IsRead (p : Reading) (c : Controller) : Type 0 where
  pub names : c.names ≡ p.names
  pub shows : shown c.sheet ≡ book_of p

-- a text is read, or its flaw or fault is answered
abbrev pub Reads : {E : Type 0} → Result Reading E → Result Controller E → Type 0
Reads (Ok p) result = IsOkAnd result (IsRead p)
Reads (Err e) result = result ≡ Err e
