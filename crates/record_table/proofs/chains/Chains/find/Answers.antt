use Rattle.std.proofs.Common.{◌≡◌, ◌+◌, ◌-◌, sym, ap, ◌∙◌, arith}
use Rattle.record_table.specs.Chains.{numbered}
use Rattle.record_table.specs.Steps.{that_done, that_end, that_here, that_next, next_low}
use Rattle.record_table.proofs.chains.Chains.find.Goals as goal

pub returns-then-number-eq0-clause-is : goal.returns-then-number-eq0-clause-is
returns-then-number-eq0-clause-is g c = λ p is.
    let end = that_end p (numbered c.args.self.now.slots) (1024 - c.loop.counter) c.loop.number c.if-number-eq0.true in
    sym end ∙ c.loop.invariant.1 p is

pub returns-then-test-clause-is : goal.returns-then-test-clause-is
returns-then-test-clause-is g c = λ p is.
    let passes = ap p (sym c.at-record.ensures) ∙ sym (is c.at-record.result c.test.result c.test.ensures) ∙ c.if-test.true in
    let here = that_here p (numbered c.args.self.now.slots) (1024 - c.loop.counter) c.loop.number (omega arith) c.if-number-eq0.false passes in
    sym here ∙ c.loop.invariant.1 p is

pub loop-preserved : goal.loop-preserved
loop-preserved g c =
    let next_is = ap (λ r. r.next) c.at-record.ensures in (
      rw next_is (next_low c.args.self.now.slots c.requires.low.1 c.loop.number (omega arith) c.loop.invariant.0),
      λ p is.
          let passes = ap p (sym c.at-record.ensures) ∙ sym (is c.at-record.result c.test.result c.test.ensures) ∙ c.if-test.false in
          let next = that_next p (numbered c.args.self.now.slots) (1024 - c.loop.counter) (1024 - (c.loop.counter + 1)) c.loop.number (omega arith) c.if-number-eq0.false passes in
          rw next_is (sym next ∙ c.loop.invariant.1 p is),
    )

pub returns-clause-is : goal.returns-clause-is
returns-clause-is g c = λ p is.
    let left : 1024 - c.loop.counter ≡ 0 = omega arith in
    let done = that_done p (numbered c.args.self.now.slots) (1024 - c.loop.counter) c.loop.number left in
    sym done ∙ c.loop.invariant.1 p is
