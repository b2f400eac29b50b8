use Rattle.judge.proofs.Turns.{Turning}
use Rattle.judge.proofs.way.Way.turn.Given as goal

abbrev pub invariant-loop-left : goal.invariant-loop-left
invariant-loop-left g l = Turning l.self l.here l.left
