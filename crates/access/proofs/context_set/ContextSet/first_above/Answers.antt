use Rattle.std.proofs.Common.{◌-◌, ◌*◌, ◌∙◌, ap, subst, arith}
use Rattle.access.proofs.ContextLaws.{NoneBefore, none_to_start, none_through, first_told, none_at_all}
use Rattle.access.proofs.context_set.ContextSet.first_above.Goals as goal

pub loop-i-init : goal.loop-i-init
loop-i-init c = none_to_start c.from-n.result c.args.self

pub returns-in-Some : goal.returns-in-Some
returns-in-Some c =
    let first = c.in-Some.ensures in
    let before = subst (λ n. NoneBefore n c.args.self c.loop-i.i) c.from-n.ensures c.loop-i.invariant in
    let from = c.saturating_sub.ensures ∙ ap (λ n. n - 64 * c.loop-i.i) c.from-n.ensures in
    first_told c.args.n c.args.self c.loop-i.i before c.in-Some.j c.loop-i-test.true (omega (arith, first.0, from)) first.1 first.2 (λ k l m. first.3 k (omega (arith, l, from)) m)

pub loop-i-preserved : goal.loop-i-preserved
loop-i-preserved c = none_through c.from-n.result c.args.self c.loop-i.i c.loop-i.invariant (λ k l. c.in_default.ensures k (omega (arith, l, c.saturating_sub.ensures)))

pub returns : goal.returns
returns c = none_at_all c.args.n c.args.self c.loop-i.i (omega (arith, c.loop-i-test.false)) (subst (λ n. NoneBefore n c.args.self c.loop-i.i) c.from-n.ensures c.loop-i.invariant)
