-- The notes as a list, the latest first.
use Rattle.std.proofs.Common.{◌≡◌, ℕ, zero, suc, ◌+◌, ◌<◌, ◌≤◌, List, [], ◌∷◌, length, get_or, set, sym, refl, ap, ◌∙◌, ap₂, add-one, arith, get_or-set_other, get_or-set_same}
use Rattle.sheet.specs.Noted.{no_note, latest}
use Rattle.sheet.specs.declared.note.Note.{Note}

-- no notes
pub latest_none : (list : List Note) (k : ℕ) → k ≡ 0 → latest list k ≡ []
unfolding latest
latest_none list k e = ap (latest list) e

-- as many as there are
pub latest_length : (list : List Note) (k : ℕ) → length (latest list k) ≡ k
unfolding latest
latest_length list zero = refl
latest_length list (suc k) = ap suc (latest_length list k)

-- so their count tells how many a list of them has
pub count_is : (list : List Note) (k : ℕ) (xs : List Note) → latest list k ≡ xs → length xs ≡ k
count_is list k xs e = sym (ap length e) ∙ latest_length list k

-- a note replaced behind the first k changes none of them
below : (list : List Note) (j : ℕ) (x : Note) (k : ℕ) → k ≤ j → latest (set list j x) k ≡ latest list k
unfolding latest
below list j x zero h = refl
below list j x (suc k) h = ap₂ (λ a b. a ∷ b) (get_or-set_other list j k x no_note (omega arith)) (below list j x k (omega arith))

-- one note more comes first
pub latest_more : (list : List Note) (k : ℕ) (x : Note) → k < length list → latest (set list k x) (k + 1) ≡ x ∷ latest list k
unfolding latest
latest_more list k x h =
    ap (latest (set list k x)) (add-one k)
    ∙ ap₂ (λ a b. a ∷ b) (get_or-set_same list k x no_note h) (below list k x k (omega arith))

-- the first is the last that came
pub latest_less : (list : List Note) (k j : ℕ) → suc j ≡ k → latest list k ≡ get_or list j no_note ∷ latest list j
unfolding latest
latest_less list k j e = sym (ap (latest list) e)
