-- What is printed of a policy text.
use Rattle.std.specs.Prelude.{◌≡◌, ℕ, List, [], ◌++◌, codes, Ok, Err, Option, Result}
use Rattle.std.specs.Io.KnownBytes.{Appends}
use Rattle.judge.specs.declared.step.Step.{Step}
use Rattle.judge.specs.declared.verdict.Verdict.{Verdict}
use Rattle.sheet.specs.Book.{Book}
use Rattle.sheet.specs.Judging.{VerdictOnEntry}
use Rattle.report.specs.Parts.{part}
use Rattle.report.specs.Reporting.{NoneAbove, IsNext}
use Rattle.policy_text.specs.Faults.{fault_words}
use Rattle.policy_text.specs.Reading.{Reading, book_of}
use Rattle.policy_text.specs.declared.fault.Fault.{Fault}

-- bytes are the part of property k: some verdict on it is right, and they say it
pub record IsPart (b : Book) (names : List (List ℕ)) (k : ℕ) (bytes : List ℕ) : Type 0 where
  pub verdict : Verdict
  pub lent : List Step
  pub steps : List Step
  pub right : VerdictOnEntry b (b.properties k) lent steps verdict
  pub says : bytes ≡ part k verdict steps names

-- bytes are the report of the properties above a number: their parts by rising number
pub data ReportAbove (b : Book) (names : List (List ℕ)) : ℕ → List ℕ → Type 0 where
  over : {after : ℕ} → NoneAbove b after → ReportAbove b names after []
  next : {after : ℕ} {bytes rest : List ℕ} (k : ℕ) → IsNext b after k → IsPart b names k bytes → ReportAbove b names k rest → ReportAbove b names after (bytes ++ rest)

-- what a writer holds grew by the report of a book
abbrev pub Written : Book → List (List ℕ) → Option (List ℕ) → Option (List ℕ) → Type 0
Written b names old new = (bytes : List ℕ) × Appends old new bytes × ReportAbove b names 0 bytes

-- what is printed: the line of the text's fault, or the report of the book that the text tells
abbrev pub Prints : Result Reading Fault → List ℕ → Type 0
Prints (Err fault) bytes = bytes ≡ fault_words fault ++ codes "\n"
Prints (Ok p) bytes = ReportAbove (book_of p) p.names 0 bytes
