use Rattle.std.proofs.Common.{arith}
use Rattle.search.proofs.Frontier.{used_le, grown_then, lent_then}
use Rattle.search.proofs.Children.{so_more, last_child}
use Rattle.search.proofs.breadth_first.visit_all.Goals as goal

pub loop-node-smaller : goal.loop-node-smaller
loop-node-smaller g c = omega (arith, used_le _ _ _ _ c.if-visit.ensures.stepped.grown.queue, c.if-visit.ensures.pushed.0)

pub returns-then-visit-clause-born : goal.returns-then-visit-clause-born
returns-then-visit-clause-born g c =
    let i = c.loop-node.invariant in
    last_child _ _ _ _ c.loop-node.ticks (g.G.Graph.holds c.args.graph.now c.loop-node.reached) i.1 i.0.0.grown.queue i.2 c.visit.new.ticks c.in-Some.node i.0.0.grown.further c.in-Some.ensures c.if-visit.ensures.stepped.grown c.if-visit.ensures.pushed i.0.0.«open»

pub returns-then-visit-clause-stepped : goal.returns-then-visit-clause-stepped
returns-then-visit-clause-stepped g c =
    let s = c.if-visit.ensures.stepped in
    record { grown = grown_then _ c.loop-node.invariant.0.0.grown s.grown; some = s.some; target = s.target; depth = s.depth }

pub loop-node-preserved : goal.loop-node-preserved
loop-node-preserved g c =
    let i = c.loop-node.invariant in
    let s = c.if-visit.ensures in (
      (record { grown = grown_then _ i.0.0.grown s.stepped.grown; «open» = s.stepped.«open»; within = s.stepped.within }, lent_then i.0.1 s.lent),
      c.if-visit.ensures.same,
      so_more _ _ _ _ c.loop-node.ticks (g.G.Graph.holds c.args.graph.now c.loop-node.reached) i.1 i.0.0.grown.queue i.2 c.visit.new.ticks c.in-Some.node i.0.0.grown.further c.in-Some.ensures c.if-visit.ensures.stepped.grown c.if-visit.ensures.pushed,
    )
