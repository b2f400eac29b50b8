use Rattle.sheet.specs.Book.{start}
use Rattle.sheet.specs.Shown.{shown}
use Rattle.replay.proofs.Replaying.{Going}
use Rattle.replay.proofs.replay.replay.Given as goal

abbrev pub invariant-loop-i : goal.invariant-loop-i
invariant-loop-i g l = Going (start (g.P.Policy.meaning l.fn.policy)) l.requests l.fn.answers l.answers l.i (shown l.session.sheet)
