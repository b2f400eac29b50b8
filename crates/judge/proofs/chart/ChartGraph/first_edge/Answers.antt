use Rattle.std.proofs.Common.{◌≤◌, ℕ, ◌+◌, ◌*◌, Bool, Some, ◌∙◌, sym, ap, subst, arith}
use Rattle.std.proofs.Math.Nat.{mul-le-mul_right, div-lt_iff_lt-mul}
use Rattle.access.specs.Contexts.{member}
use Rattle.verdicts.specs.Possible.{makeable}
use Rattle.judge.specs.Regimes.{grants_of}
use Rattle.judge.specs.Moved.{linked}
use Rattle.judge.specs.Nodes.{phase, context}
use Rattle.judge.specs.Plan.{FirstInPhase}
use Rattle.search.specs.Problem.{First, outside}
use Rattle.search.proofs.Asked.{leads_on}
use Rattle.judge.specs.Charts.{problem_of, holds}
use Rattle.judge.proofs.Nexts.{NoneBelow, none_earlier, none_here, edge_first, left_in, none_either}
use Rattle.judge.proofs.chart.ChartGraph.first_edge.Goals as goal

pub loop-phase-init : goal.loop-phase-init
loop-phase-init g c =
    let r = c.args.self.now.moves.now.regime in
    let m = g.P.Policy.meaning r.policy.now in
    let held = holds c.args.self.now c.args.reached.now in
    subst (λ q. (phase m.contexts c.args.from ≤ q) × NoneBelow g.A.Activity.kind m (grants_of r) held c.args.from q) (sym c.phase_of-phase.ensures)
    (omega arith, none_earlier g.A.Activity.kind m (grants_of r) (g.met.P.Policy.sound r.policy.now).a_context held c.args.from)

pub returns-in-Some : goal.returns-in-Some
returns-in-Some g c =
    let r = c.args.self.now.moves.now.regime in
    let m = g.P.Policy.meaning r.policy.now in
    let q = c.loop-phase.phase in
    let reaches = (λ (d : ℕ). c.from.ensures d ∙ ap (makeable m (grants_of r)) (ap (λ x. linked c.link.result x d) c.context_of-context.ensures ∙ c.link.ensures (context m.contexts c.args.from) d)) in
    let left = left_in m.contexts (g.met.P.Policy.sound r.policy.now).a_context c.args.reached.now q (member c.from.result) (member c.without-next.result) c.without-next.ensures in
    let below : q + 1 ≤ g.A.Activity.kind.phases = omega (arith, c.loop-phase-test.true, c.PHASES-phase-end.ensures, g.met.A.Activity.counted) in
    let room : q * m.contexts + m.contexts ≤ g.A.Activity.kind.phases * m.contexts = omega (arith, mul-le-mul_right {m = q + 1} m.contexts below) in
    let held = holds c.args.self.now c.args.reached.now in
    let node = (div-lt_iff_lt-mul (g.met.P.Policy.sound r.policy.now).a_context).0 (omega (arith, c.loop-phase.invariant.0, below)) in
    subst (λ (led : ℕ → Bool). First (outside held led) 0 (g.A.Activity.kind.phases * m.contexts) (Some c.in-Some.node)) (sym (leads_on (problem_of c.args.self.now) c.args.from node))
    (edge_first g.A.Activity.kind m (grants_of r) (g.met.P.Policy.sound r.policy.now).a_context held c.args.from q c.loop-phase.invariant.0 c.loop-phase.invariant.1
    (member c.from.result) (member c.without-next.result) reaches left _ c.in-Some.node room
    (subst (FirstInPhase m.contexts (member c.without-next.result) q) c.in-Some.is c.first_at.ensures))

pub loop-phase-preserved : goal.loop-phase-preserved
loop-phase-preserved g c =
    let r = c.args.self.now.moves.now.regime in
    let m = g.P.Policy.meaning r.policy.now in
    let q = c.loop-phase.phase in
    let reaches = (λ (d : ℕ). c.from.ensures d ∙ ap (makeable m (grants_of r)) (ap (λ x. linked c.link.result x d) c.context_of-context.ensures ∙ c.link.ensures (context m.contexts c.args.from) d)) in
    let left = left_in m.contexts (g.met.P.Policy.sound r.policy.now).a_context c.args.reached.now q (member c.from.result) (member c.without-next.result) c.without-next.ensures in (
      omega (arith, c.loop-phase.invariant.0),
      none_here g.A.Activity.kind m (grants_of r) (g.met.P.Policy.sound r.policy.now).a_context (holds c.args.self.now c.args.reached.now) c.args.from q c.loop-phase.invariant.0 c.loop-phase.invariant.1
          (member c.from.result) (member c.without-next.result) reaches left
          (subst (FirstInPhase m.contexts (member c.without-next.result) q) c.in_default.is c.first_at.ensures),
    )

pub returns : goal.returns
returns g c =
    let n = (g.P.Policy.meaning c.args.self.now.moves.now.regime.policy.now).contexts in
    let all : g.A.Activity.kind.phases ≤ c.loop-phase.phase = omega (arith, c.loop-phase-test.false, c.PHASES-phase-end.ensures, g.met.A.Activity.counted) in
    λ v _ l. none_either _ _ _ (c.loop-phase.invariant.1 v (omega (arith, l, mul-le-mul_right {m = g.A.Activity.kind.phases} n all)))
