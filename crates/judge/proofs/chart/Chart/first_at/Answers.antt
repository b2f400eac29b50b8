use Rattle.std.proofs.Common.{◌+◌, ◌-◌, ◌*◌, Some, sym, subst, arith}
use Rattle.access.specs.Contexts.{member}
use Rattle.judge.specs.Plan.{FirstInPhase}
use Rattle.judge.proofs.Nexts.{phase_some}
use Rattle.judge.proofs.chart.Chart.first_at.Goals as goal

pub returns : goal.returns
returns g c =
    let p = c.args.self.now.moves.now.regime.policy.now in
    let n = (g.P.Policy.meaning p).contexts in
    subst (λ x. FirstInPhase n (member c.args.set) c.args.phase (Some (c.args.phase * x + c.in_ok-context.context - 1))) (sym c.args.self.now.counted)
    (phase_some n (g.met.P.Policy.sound p).a_context c.args.set c.args.phase c.in_ok-context.context c.in_ok-context.ensures (omega (arith, c.if-context-self.false, c.args.self.now.counted)))
