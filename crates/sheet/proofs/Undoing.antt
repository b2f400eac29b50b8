-- A setting that is noted can be undone, and so can the notes before it.
use Rattle.std.proofs.Common.{◌≡◌, ◌==◌, ◌&&◌, ℕ, zero, suc, true, not, List, [], ◌∷◌, is_some, Some, None, Option, sym, refl, ap, ◌∙◌, arith}
use mathlib.Core.Path.{fun_ext}
use Rattle.std.proofs.lemmas.Bool.{cond_both}
use Rattle.std.proofs.lemmas.Bool.Decides.{nat_tests}
use Rattle.access.specs.Policy.{Matrix, Meaning, with_pair, with_written}
use Rattle.access.specs.Contexts.{both_inside}
use Rattle.access.specs.Sound.{Sound, some, filled}
use Rattle.access.specs.Refusals.{when_accepted}
use Rattle.access.specs.Setting.{setting_refusal, with_set, after_setting}
use Rattle.access.specs.declared.refusal.Refusal.{Refusal}
use Rattle.access.proofs.Pairs.{pairs_with}
use Rattle.access.proofs.Settings.{accepted, pair_parts}
use Rattle.access.proofs.Tests.{differ}
use Rattle.sheet.specs.Undo.{undone, undo, undoable}
use Rattle.sheet.specs.declared.note.Note.{Note}

-- the set that stood before, put back, gives what stood before
put_back_same : (w : Matrix) (s t v : ℕ) → with_pair (with_pair w s t v) s t (w s t) ≡ w
put_back_same w s t v = fun_ext (λ x. fun_ext (λ y. cond_both (x == s && y == t) (w s t) (with_pair w s t v x y) (λ z. z ≡ w x y) (λ here. grind (arith, nat_tests)) (λ away. rw away refl)))

-- a set that was replaced can be put back
put_back_accepted : (m : Meaning) (s t ops : ℕ) → Sound m → both_inside m.contexts s t ≡ true → setting_refusal (with_set m s t ops) s t (m.written s t) ≡ None
put_back_accepted m s t ops sound ins =
    accepted (with_set m s t ops) s t (m.written s t) ins (sound.written_known s t) (λ ne z full. room ne (here ∙ z) full)
  where
    one : (o : ℕ) → (o ≡ 0 → ⊥) → some o ≡ 1
    one zero ne = absurd (ne refl)
    one (suc o) ne = refl

    here : ops ≡ (with_set m s t ops).written s t
    here = grind (arith, nat_tests)

    room : (m.written s t ≡ 0 → ⊥) → ops ≡ 0 → filled (with_set m s t ops) ≡ m.capacity → ⊥
    room ne z full =
        let p = pair_parts m.contexts s t ins in
        let counted = pairs_with m.written s t ops m.contexts m.contexts p.0 p.1 p.2 p.3 in
        let new : some ops ≡ 0 = ap some z in
        let old : some (m.written s t) ≡ 1 = one (m.written s t) ne in
        omega (arith, counted, old, new, sound.room)

-- after a setting that was accepted, undoing its note gives what stood before
module _ (m : Meaning) (s t ops : ℕ) where
  pub undone_same : undone (with_set m s t ops) (record { subject = s; target = t; before = record { bits = m.written s t } }) ≡ m
  undone_same = ap (with_written m) (put_back_same m.written s t ops)

  pub undo_noted : (xs : List Note) → undo (record { subject = s; target = t; before = record { bits = m.written s t } } ∷ xs) (with_set m s t ops) ≡ undo xs m
  undo_noted xs = ap (undo xs) undone_same

  pub undoable_noted : Sound m → both_inside m.contexts s t ≡ true → (xs : List Note) → undoable (record { subject = s; target = t; before = record { bits = m.written s t } } ∷ xs) (with_set m s t ops) ≡ undoable xs m
  undoable_noted sound ins xs =
      let r : setting_refusal (with_set m s t ops) s t (m.written s t) ≡ None = put_back_accepted m s t ops sound ins in
      rw (r, undone_same) refl

-- one note is undone
pub undo_step : (m m' : Meaning) (x : Note) (xs : List Note) → undoable (x ∷ xs) m ≡ true → m' ≡ after_setting m x.subject x.target x.before.bits
    → (undoable xs m' ≡ true) × (undo xs m' ≡ undo (x ∷ xs) m)
undo_step m m' x xs u after = go (setting_refusal m x.subject x.target x.before.bits) u after
  where
    go : (o : Option Refusal) → not (is_some o) && undoable xs (undone m x) ≡ true → m' ≡ when_accepted o (undone m x) m → (undoable xs m' ≡ true) × (undo xs m' ≡ undo (x ∷ xs) m)
    go None u back = rw back (u, refl)
    go (Some why) u back = differ (sym u)

-- undoing changes the written sets alone
pub undo_written : (xs : List Note) (m : Meaning) → undo xs m ≡ with_written m (undo xs m).written
undo_written [] m = refl
undo_written (x ∷ xs) m = undo_written xs (undone m x)
