use Rattle.std.proofs.Common.{◌≡◌, true, length}
use Rattle.sheet.specs.Undo.{undo, undoable}
use Rattle.sheet.proofs.setting.put_back.Given as goal

abbrev pub invariant-loop-note : goal.invariant-loop-note
invariant-loop-note g l =
    let was = g.P.Policy.meaning l.initial.policy in
    let is = g.P.Policy.meaning l.policy in
    (undoable l.notes is ≡ true) × (undo l.notes is ≡ undo l.initial.notes was)

abbrev pub decreases-loop-note : goal.decreases-loop-note
decreases-loop-note g l = length l.notes
