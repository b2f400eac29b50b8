-- The words of a line.
use Rattle.std.specs.Prelude.{ℕ, ◌+◌, List, [], ◌∷◌, length}
use Rattle.words.specs.Parts.{parts}

-- a word, and the column of its first byte
pub record WordAt : Type 0 where
  pub column : ℕ
  pub bytes : List ℕ

-- words with one byte between each two, the first of them at a column
abbrev pub placed : ℕ → List (List ℕ) → List WordAt
placed column [] = []
placed column (w ∷ ws) = record { column = column; bytes = w } ∷ placed (column + length w + 1) ws

-- each space parts two words
abbrev pub words_of : List ℕ → List WordAt
words_of line = placed 1 (parts 32 line)
