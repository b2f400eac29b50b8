use Rattle.std.proofs.Common.{◌≡◌, subst, arith}
use Rattle.judge.proofs.Collected.{Collected, collected_none, collect}
use Rattle.judge.proofs.doings.passing.Goals as goal

pub loop-index-init : goal.loop-index-init
loop-index-init g c = λ p is. collected_none p c.none-set.result c.none-set.ensures

pub loop-index-preserved : goal.loop-index-preserved
loop-index-preserved g c =
    λ p is. collect p c.loop-index.index c.loop-index.set c.with_if-set.result c.test.result (omega (arith, c.loop-index-test.true, c.requires.few)) (c.loop-index.invariant p is) c.with_if-set.ensures (is _ _ c.test.ensures)

pub returns : goal.returns
returns g c =
    let all : c.loop-index.index ≡ c.args.contexts = omega (arith, c.loop-index.auto.index-end, c.loop-index-test.false) in
    λ p is. subst (λ k. Collected p k c.loop-index.set) all (c.loop-index.invariant p is)
