-- What a push leaves in the slice xs whose first `len` are the list: the slice ys, whose first `more` are.
use Rattle.std.specs.Prelude.{◌≡◌, ℕ, ◌+◌, ◌<◌, List, [], ◌∷◌, ◌++◌, length, take, drop, Ok, Err, Result, slice_set}

-- x is written behind the items, and nothing else has changed
pub record Added {T : Type 0} (xs : List T) (len : ℕ) (x : T) (ys : List T) (more : ℕ) : Type 0 where
  pub room : len < length xs
  pub one : more ≡ len + 1
  pub written : ys ≡ slice_set xs len x
  pub front : take more ys ≡ take len xs ++ x ∷ []
  pub rest : drop more ys ≡ drop more xs

-- no place is left, nothing has changed, and x is handed back as e
pub record Full {T : Type 0} (xs : List T) (len : ℕ) (x : T) (ys : List T) (more : ℕ) (e : T) : Type 0 where
  pub full : len ≡ length xs
  pub same : more ≡ len
  pub kept : ys ≡ xs
  pub back : e ≡ x

-- a push adds x, or hands it back where the slice is full
abbrev pub Pushed : {T : Type 0} → List T → ℕ → T → List T → ℕ → Result (Unit {0}) T → Type 0
Pushed xs len x ys more (Ok _) = Added xs len x ys more
Pushed xs len x ys more (Err e) = Full xs len x ys more e
