use Rattle.access.specs.Contexts.{member}
use Rattle.judge.proofs.Nexts.{source_first}
use Rattle.judge.proofs.chart.ChartGraph.first_source.Goals as goal

pub returns : goal.returns
returns g c =
    let m = g.P.Policy.meaning c.args.self.now.moves.now.regime.policy.now in
    source_first m.contexts (g.met.P.Policy.sound c.args.self.now.moves.now.regime.policy.now).a_context c.args.reached.now (member c.args.self.now.from) (member c.without.result) c.without.ensures
    g.A.Activity.kind.phases g.met.A.Activity.lawful.some c.first_at.result c.first_at.ensures
