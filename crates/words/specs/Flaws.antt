-- What is wrong with a line, and where.
use Rattle.words.specs.Words.{WordAt}
use Rattle.access.specs.declared.refusal.Refusal.{Refusal}
use Rattle.words.specs.declared.flaw.Flaw.{Flaw}

-- with the line as a whole
abbrev pub of_line : Refusal → Flaw
of_line refusal = record { refusal = refusal; column = 1 }

-- with a word
abbrev pub at_word : WordAt → Refusal → Flaw
at_word w refusal = record { refusal = refusal; column = w.column }
