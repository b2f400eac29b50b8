-- The notes of an open change, the latest first.
use Rattle.std.specs.Prelude.{◌≡◌, ℕ, zero, suc, List, [], ◌∷◌, Some, None, Option, slice_index_or}
use Rattle.sheet.specs.declared.note.Note.{Note}

-- what a place without a note reads as
abbrev pub no_note : Note
no_note = record { subject = 0; target = 0; before = record { bits = 0 } }

-- the first k of a list, the last of them first
unfoldable pub latest : List Note → ℕ → List Note
latest list zero = []
latest list (suc k) = slice_index_or list k no_note ∷ latest list k

-- the first of a list was taken off it, if there was one
abbrev pub Took : List Note → Option Note → List Note → Type 0
Took before (Some x) after = before ≡ x ∷ after
Took before None after = (before ≡ []) × (after ≡ [])
