-- The shape of a name.
use Rattle.std.specs.Prelude.{ℕ, Bool, false, ◌&&◌, ◌||◌, List, [], ◌∷◌, length, ◌==◌, nat_le}
use Rattle.std.specs.List.{list_all}

-- a to z
abbrev pub letter : ℕ → Bool
letter b = nat_le 97 b && nat_le b 122

-- 0 to 9
abbrev pub digit : ℕ → Bool
digit b = nat_le 48 b && nat_le b 57

-- a letter, a digit or _
abbrev pub name_byte : ℕ → Bool
name_byte b = letter b || digit b || b == 95

-- a letter is first
abbrev pub letter_first : List ℕ → Bool
letter_first [] = false
letter_first (b ∷ bs) = letter b

-- 1 to 16 bytes that may stand in a name, a letter first
abbrev pub is_name : List ℕ → Bool
is_name w = letter_first w && nat_le (length w) 16 && list_all name_byte w
