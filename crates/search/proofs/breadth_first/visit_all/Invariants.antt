use Rattle.std.proofs.Common.{◌-◌}
use Rattle.search.specs.Queue.{Ticked}
use Rattle.search.proofs.Children.{So}
use Rattle.search.proofs.Frontier.{Turn}
use Rattle.search.proofs.breadth_first.visit_all.Given as goal

abbrev pub invariant-loop-node : goal.invariant-loop-node
invariant-loop-node g l =
    Turn (g.G.Graph.problem l.graph) l.initial.ticks l.ticks l.initial.places l.places l.depth
    × Ticked (g.G.Graph.problem l.graph) l.ticks (g.G.Graph.holds l.graph l.reached)
    × So (g.G.Graph.problem l.graph) l.from l.parent l.depth l.places.items.now l.initial.places.len l.places.len

abbrev pub decreases-loop-node : goal.decreases-loop-node
decreases-loop-node g l = (g.G.Graph.problem l.graph).nodes - l.places.len
