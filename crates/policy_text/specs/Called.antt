-- What becomes of a line that asks for a call.
use Rattle.std.specs.Prelude.{◌≡◌, Ok, Err, Result}
use Rattle.access.specs.Refusals.{answer}
use Rattle.access.specs.declared.refusal.Refusal.{Refusal}
use Rattle.sheet.specs.Book.{Book, refusal, fed}
use Rattle.sheet.specs.declared.request.Request.{Request}
use Rattle.words.specs.Flaws.{of_line}
use Rattle.words.specs.declared.flaw.Flaw.{Flaw}

-- what a call answers, as the flaw of its line
abbrev pub flaw_of : Result (Unit {0}) Refusal → Result (Unit {0}) Flaw
flaw_of (Ok done) = Ok tt
flaw_of (Err why) = Err (of_line why)

-- a line makes a call, or has a flaw before and alters nothing
abbrev pub Answers : Book → Result Request Flaw → Result (Unit {0}) Flaw → Book → Type 0
Answers b (Ok q) result after = (result ≡ flaw_of (answer (refusal b q))) × (after ≡ fed b q)
Answers b (Err flaw) result after = (result ≡ Err flaw) × (after ≡ b)
