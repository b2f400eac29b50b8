-- What undoing the notes of an open change gives.
use Rattle.std.specs.Prelude.{◌&&◌, Bool, true, not, List, [], ◌∷◌, is_some, Some, None, Option}
use Rattle.access.specs.Policy.{Meaning}
use Rattle.access.specs.Setting.{setting_refusal, with_set}
use Rattle.sheet.specs.declared.note.Note.{Note}

-- the set that stood before the note's setting is put back
abbrev pub undone : Meaning → Note → Meaning
undone m x = with_set m x.subject x.target x.before.bits

-- the notes are undone, the latest first
abbrev pub undo : List Note → Meaning → Meaning
undo [] m = m
undo (x ∷ xs) m = undo xs (undone m x)

-- undoing the notes, the latest first, meets no refusal
abbrev pub undoable : List Note → Meaning → Bool
undoable [] m = true
undoable (x ∷ xs) m = not (is_some (setting_refusal m x.subject x.target x.before.bits)) && undoable xs (undone m x)

-- the notes of an open change can be undone
abbrev pub change_undoable : Option (List Note) → Meaning → Bool
change_undoable None m = true
change_undoable (Some notes) m = undoable notes m
