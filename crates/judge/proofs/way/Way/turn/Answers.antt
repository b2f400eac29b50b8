use Rattle.std.proofs.Common.{inr, arith}
use Rattle.judge.proofs.Turns.{turn_again, turn_done}
use Rattle.judge.proofs.way.Way.turn.Goals as goal

pub loop-left-preserved : goal.loop-left-preserved
loop-left-preserved g c =
    turn_again c.args.self.now c.loop-left.here c.loop-left.left c.loop-left.invariant c.loop-left-test.true (omega (arith, c.if-phase_of-PHASES.false, c.phase_of.ensures, c.PHASES.ensures, g.met.A.Activity.counted))
    c.from-here.result c.from-here.ensures

pub returns-then-phase_of-PHASES : goal.returns-then-phase_of-PHASES
returns-then-phase_of-PHASES g c =
    turn_done c.args.self.now (g.met.P.Policy.sound c.args.self.now.chart.now.moves.now.regime.policy.now) c.loop-left.here c.loop-left.left c.loop-left.invariant
    (inr (λ e. c.if-phase_of-PHASES.true (omega (arith, e, c.phase_of.ensures, c.PHASES.ensures, g.met.A.Activity.counted)))) _ (omega arith)
