use Rattle.sheet.specs.Book.{start}
use Rattle.sheet.specs.Shown.{shown}
use Rattle.std.proofs.Common.{arith}
use Rattle.replay.proofs.Replaying.{none_yet, one_more, promised}
use Rattle.replay.proofs.replay.replay.Goals as goal

pub loop-i-init : goal.loop-i-init
loop-i-init g c = none_yet (start (g.P.Policy.meaning c.args.policy)) c.args.requests.now c.args.answers.now (shown c.lay_out.result) c.lay_out.ensures

pub loop-i-preserved : goal.loop-i-preserved
loop-i-preserved g c =
    one_more (start (g.P.Policy.meaning c.args.policy)) c.args.requests.now c.args.answers.now c.loop-i.answers c.loop-i.i _ (shown c.loop-i.session.sheet) (shown c.serve.new.self.sheet) c.serve.result
    (omega arith) (omega arith) c.loop-i.invariant c.serve.ensures.answer c.serve.ensures.done

pub returns : goal.returns
returns g c =
    promised (start (g.P.Policy.meaning c.args.policy)) c.args.requests.now c.args.answers.now c.loop-i.answers c.loop-i.i (shown c.loop-i.session.sheet) _ (omega arith) c.loop-i.invariant c.loop-i.session.holds
