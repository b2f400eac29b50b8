-- What it means to be cut into parts, without saying how it is done.
use Rattle.std.specs.Prelude.{◌≡◌, ◌≢◌, ℕ, ◌-◌, List, length, take, drop, All}
use Rattle.std.specs.List.{join_with_byte}
use Rattle.words.specs.Parts.{parts}
use Rattle.words.specs.Words.{WordAt, words_of}

-- no byte is the mark
abbrev pub Lacks : ℕ → List ℕ → Type 0
Lacks mark bytes = All (λ b. b ≢ mark) bytes

-- the parts of some bytes: put together again with a mark between each two, they are the bytes, and none holds a mark
pub record AreParts (mark : ℕ) (bytes : List ℕ) (ps : List (List ℕ)) : Type 0 where
  pub whole : join_with_byte mark ps ≡ bytes
  pub free : All (Lacks mark) ps

-- lines are parted at line feeds, words at spaces and the names of a set at commas
abbrev pub PartsLaw : Type 0
PartsLaw = (mark : ℕ) (bytes : List ℕ) → AreParts mark bytes (parts mark bytes)

-- a word's bytes stand in the line from its column on
abbrev pub StandsIn : List ℕ → WordAt → Type 0
StandsIn line w = take (length w.bytes) (drop (w.column - 1) line) ≡ w.bytes

-- each word of a line stands at its column
abbrev pub ColumnsLaw : Type 0
ColumnsLaw = (line : List ℕ) → All (StandsIn line) (words_of line)
