use Rattle.std.proofs.Common.{length, ap, arith}
use Rattle.search.proofs.Distance.{ready_none}
use Rattle.search.proofs.breadth_first.search.Goals as goal

pub explore-requires-clause-ready : goal.explore-requires-clause-ready
explore-requires-clause-ready g c =
    ready_none _ _ _ _ _ c.over-queue.ensures.empty (omega (arith, c.nodes-nodes.type_inv, c.nodes-nodes.ensures))
    (record { ticks = omega arith; places = omega (arith, ap length c.over-queue.ensures.same) })
    c.over-marks.ensures.zero

pub explore-requires-clause-empty : goal.explore-requires-clause-empty
explore-requires-clause-empty g c = c.over-queue.ensures.empty
