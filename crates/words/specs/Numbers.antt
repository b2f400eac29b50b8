-- Words that are numbers.
use Rattle.std.specs.Prelude.{ℕ, ◌+◌, ◌-◌, ◌*◌, Bool, false, not, cond, ◌&&◌, ◌||◌, List, [], ◌∷◌, length, Some, None, Option, Result, ◌==◌, nat_le, ok_or}
use Rattle.std.specs.List.{list_all}
use Rattle.words.specs.Shape.{digit}
use Rattle.words.specs.Words.{WordAt}
use Rattle.access.specs.declared.refusal.Refusal.TheVariants.{UnfitWord}
use Rattle.words.specs.Flaws.{at_word}
use Rattle.words.specs.declared.flaw.Flaw.{Flaw}

-- the word is there, and no 0 stands before another byte
abbrev pub unpadded : List ℕ → Bool
unpadded [] = false
unpadded (b ∷ bs) = not (b == 48) || length bs == 0

-- what digits are worth behind those of a value
abbrev pub worth : ℕ → List ℕ → ℕ
worth value [] = value
worth value (b ∷ bs) = worth (10 * value + (b - 48)) bs

-- a number is 0 or begins with another digit, and is at most 999
abbrev pub number_of : List ℕ → Option ℕ
number_of w = cond (unpadded w && (list_all digit w && nat_le (worth 0 w) 999)) (Some (worth 0 w)) None

-- the number that a word is
abbrev pub number_in : WordAt → Result ℕ Flaw
number_in w = ok_or (number_of w.bytes) (at_word w UnfitWord)

-- a number of at most 15
abbrev pub at_most_15 : Option ℕ → Option ℕ
at_most_15 None = None
at_most_15 (Some n) = cond (nat_le n 15) (Some n) None

-- a level or an owner
abbrev pub label_in : WordAt → Result ℕ Flaw
label_in w = ok_or (at_most_15 (number_of w.bytes)) (at_word w UnfitWord)
