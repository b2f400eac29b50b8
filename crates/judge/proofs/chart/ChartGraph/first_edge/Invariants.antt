use Rattle.std.proofs.Common.{◌≤◌}
use Rattle.judge.specs.Regimes.{meaning_of, grants_of}
use Rattle.judge.specs.Nodes.{phase}
use Rattle.judge.specs.Charts.{holds}
use Rattle.judge.proofs.Nexts.{NoneBelow}
use Rattle.judge.proofs.chart.ChartGraph.first_edge.Given as goal

abbrev pub invariant-loop-phase : goal.invariant-loop-phase
invariant-loop-phase g l =
    let r = l.self.moves.now.regime in
    let m = meaning_of g.P.Policy.meaning r in
    (phase m.contexts l.from ≤ l.phase) × NoneBelow g.A.Activity.kind m (grants_of r) (holds l.self l.reached) l.from l.phase
