use Rattle.std.proofs.Common.{◌≡◌, length}
use Rattle.search.specs.Queue.{Spread, Lent, Ticked, Kept}
use Rattle.search.proofs.breadth_first.explore.Given as goal

abbrev pub invariant-loop-head : goal.invariant-loop-head
invariant-loop-head g l =
    Spread (g.G.Graph.problem l.graph) l.ticks.bytes.now l.places.items.now l.places.len l.head
    × Lent l.fn.ticks l.ticks l.fn.places l.places
    × (length l.ticks.bytes.now ≡ length l.fn.ticks.bytes.now)
    × Kept (g.G.Graph.problem l.graph) l.fn.places.items.now l.places.items.now
    × Ticked (g.G.Graph.problem l.graph) l.ticks (g.G.Graph.holds l.graph l.reached)
