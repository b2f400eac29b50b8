-- The words that are yet to come.
use Rattle.std.specs.Prelude.{ℕ, ◌+◌, cond, List, [], length, drop, nat_le}
use Rattle.words.specs.Parts.{parts}
use Rattle.words.specs.Words.{WordAt, placed}
use Rattle.words.specs.declared.word.Word.{Word}
use Rattle.words.specs.declared.word.Words.{Words}

-- a word of the program
abbrev pub seen : Word → WordAt
seen w = record { column = w.column; bytes = w.bytes.now }

-- the words of a line from a place on; past the line's end there are none
abbrev pub words_from : List ℕ → ℕ → List WordAt
words_from line at = cond (nat_le at (length line)) (placed (at + 1) (parts 32 (drop at line))) []

-- the words that the program is yet to take
abbrev pub left : Words → List WordAt
left w = words_from w.line.now w.at
