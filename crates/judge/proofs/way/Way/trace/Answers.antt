use Rattle.std.proofs.Common.{length, ap, ◌∙◌, arith}
use Rattle.std.proofs.lemmas.List.{length-set}
use Rattle.judge.proofs.Turns.{next_climb, next_below, joined, trace_again, trace_keeps}
use Rattle.judge.proofs.Puts.{put-wrote}
use Rattle.judge.proofs.way.Way.trace.Goals as goal

pub bounds-self-parent : goal.bounds-self-parent
bounds-self-parent g c =
    let h = next_below c.args.self.now c.loop-left.here c.loop-left.left c.loop-left.invariant.climb c.loop-left-test.true c.from-parent.result c.from-parent.ensures in
    omega (arith, c.args.self.now.room)

pub step-step-requires : goal.step-step-requires
step-step-requires g c = joined c.args.self.now c.loop-left.here c.loop-left.left c.loop-left.invariant.climb c.loop-left-test.true c.from-parent.result c.from-parent.ensures

pub loop-left-preserved : goal.loop-left-preserved
loop-left-preserved g c =
    let inv = c.loop-left.invariant in
    let before = c.loop-left.steps.items.now in
    let i = c.slot.result in
    let s = c.step-step.result in
    let wrote = put-wrote c.put.result i c.loop-left.steps.len before c.put.new.self.items.now s c.put.ensures.put (omega (arith, c.slot.ensures.below, inv.len, c.depth-all.ensures)) in
    record {
      climb = next_climb c.args.self.now c.loop-left.here c.loop-left.left inv.climb c.loop-left-test.true c.from-parent.result c.from-parent.ensures;
      shown = trace_again c.args.self.now c.loop-left.here c.loop-left.left inv.climb c.loop-left-test.true c.from-parent.result c.from-parent.ensures
          _ _ c.turn-turn.ensures.within before (omega (arith, inv.sized, c.reserve.ensures.sized, c.requires.fits)) s inv.shown c.step-step.ensures _ (i, cc, wrote);
      same = trace_keeps c.args.self.now c.loop-left.here c.loop-left.left inv.climb c.loop-left-test.true c.from-parent.result c.from-parent.ensures
          g.A.Activity.BACKWARDS c.turn-turn.result c.turn-turn.ensures.within before (omega (arith, inv.sized, c.reserve.ensures.sized, c.requires.fits)) s _ inv.same _ (i, cc, wrote);
      lender = c.put.ensures.lender ∙ inv.lender;
      len = c.put.ensures.len ∙ inv.len;
      sized = ap length wrote ∙ length-set before i s ∙ inv.sized;
    }

pub returns-clause-shown : goal.returns-clause-shown
returns-clause-shown g c =
    record {
      turn = c.turn-turn.result;
      turned = c.turn-turn.ensures;
      shown = λ d _ below. c.loop-left.invariant.shown d (omega (arith, c.loop-left-test.false)) below;
    }
