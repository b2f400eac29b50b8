-- What a call does to the book that a sheet shows.
use Rattle.std.proofs.Common.{◌≡◌, ℕ, ◌+◌, ◌<◌, cond, ltb, min, true, false, List, ◌∷◌, length, Some, None, Ok, Err, Option, sym, refl, ap, ◌∙◌, add-one}
use Rattle.std.proofs.lemmas.Bool.{cond-true, lt-ltb}
use Rattle.access.specs.Policy.{Meaning}
use Rattle.access.specs.Sound.{Sound}
use Rattle.access.specs.Refusals.{answer, when_accepted}
use Rattle.access.specs.Setting.{setting_refusal, with_set, after_setting}
use Rattle.access.specs.declared.operation_set.OperationSet.{OperationSet}
use Rattle.access.specs.declared.refusal.Refusal.{Refusal}
use Rattle.access.proofs.Settings.{answer_ok, answer_err, accepted_inside}
use Rattle.sheet.specs.Entries.{Entries}
use Rattle.judge.specs.declared.grant.Grant.{Grant}
use Rattle.access.specs.declared.property.Property.{Property}
use Rattle.sheet.specs.Undo.{undo, undoable, change_undoable}
use Rattle.sheet.specs.Book.{Book, notes_full, refusal, fed, one_more}
use Rattle.sheet.specs.Shown.{opened}
use Rattle.sheet.specs.declared.note.Note.{Note}
use Rattle.sheet.specs.declared.request.Request.{Request}
use Rattle.sheet.specs.declared.request.Request.TheVariants.{Set, Withdraw}
use Rattle.sheet.proofs.Undoing.{undo_noted, undoable_noted, undo_written}

-- where there is room, a note more is noted
pub one_noted : (x : Note) (xs : List Note) {ys : List Note} → length xs < 128 → ys ≡ cond (ltb (length xs) 128) (x ∷ xs) xs → ys ≡ x ∷ xs
one_noted x xs room e = e ∙ cond-true (ltb (length xs) 128) (x ∷ xs) xs (lt-ltb (length xs) 128 room)

-- a call that is refused and alters nothing
pub refused : (b : Book) (q : Request) (why : Refusal) → Err why ≡ answer (refusal b q) → b ≡ fed b q
refused b q why told = let r = answer_err (refusal b q) why told in rw r refl

-- withdrawing puts the copy back
pub withdrawn : (m m' : Meaning) (c c' : Option (List Note)) (notes : List Note) (n : ℕ) (gs : Entries Grant) (ps : Entries Property) → c ≡ Some notes → c' ≡ None → m' ≡ undo notes m
    → ◌≡◌ {A = Book} (record { policy = m'; settings = n; grants = gs; properties = ps; change = opened c' m' }) (fed (record { policy = m; settings = n; grants = gs; properties = ps; change = opened c m }) Withdraw)
withdrawn m m' c c' notes n gs ps changing taken back = rw (changing, taken, back, undo_written notes m) refl

-- a setting is accepted while there is room for a note: it is the policy's
set_fed : (b : Book) (s t : ℕ) (ops : OperationSet) → notes_full b.change ≡ false → setting_refusal b.policy s t ops.bits ≡ None
    → fed b (Set s t ops) ≡ record { policy = with_set b.policy s t ops.bits; settings = min (b.settings + 1) 4294967295; grants = b.grants; properties = b.properties; change = one_more b.change }
set_fed b s t ops free o = rw (free, o) refl

-- the pair is set and noted
module _ (m m' : Meaning) (s t : ℕ) (ops before : OperationSet) (c : Option (List Note)) (xs ys : List Note) where
  module _ (told : Ok tt ≡ answer (setting_refusal m s t ops.bits)) (after : m' ≡ after_setting m s t ops.bits) (changing : c ≡ Some xs) (stood : before.bits ≡ m.written s t) (noted : ys ≡ record { subject = s; target = t; before = before } ∷ xs) where
    o : setting_refusal m s t ops.bits ≡ None
    o = answer_ok (setting_refusal m s t ops.bits) told

    is : m' ≡ with_set m s t ops.bits
    is = after ∙ ap (λ (q : Option Refusal). when_accepted q (with_set m s t ops.bits) m) o

    note : ys ≡ record { subject = s; target = t; before = record { bits = m.written s t } } ∷ xs
    note = noted ∙ ap (λ (v : ℕ). record { subject = s; target = t; before = record { bits = v } } ∷ xs) stood

    pub undoable_set : Sound m → change_undoable c m ≡ true → undoable ys m' ≡ true
    undoable_set sound u = rw (is, note, undoable_noted m s t ops.bits sound (accepted_inside m s t ops.bits o) xs) (rw changing at u)

    pub noted_set : (n k : ℕ) (gs : Entries Grant) (ps : Entries Property) → false ≡ notes_full (opened c m) → k ≡ min (n + 1) 4294967295
        → ◌≡◌ {A = Book} (record { policy = m'; settings = k; grants = gs; properties = ps; change = opened (Some ys) m' }) (fed (record { policy = m; settings = n; grants = gs; properties = ps; change = opened c m }) (Set s t ops))
    noted_set n k gs ps free counted =
        let b : Book = record { policy = m; settings = n; grants = gs; properties = ps; change = opened c m } in
        rw (set_fed b s t ops (sym free) o, is, counted, note, changing, undo_noted m s t ops.bits xs, add-one (length xs)) refl
