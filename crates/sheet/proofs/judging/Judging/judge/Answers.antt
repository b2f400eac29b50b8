use Rattle.std.proofs.Common.{subst}
use Rattle.judge.specs.Grants.{standing}
use Rattle.judge.specs.Judged.{Answered}
use Rattle.sheet.specs.Shown.{shown}
use Rattle.sheet.proofs.JudgingLaws.{judges_found}
use Rattle.sheet.proofs.judging.Judging.judge.Goals as goal

pub returns-in-Ok-clause-answer : goal.returns-in-Ok-clause-answer
returns-in-Ok-clause-answer g c =
    let self = c.args.self.now in
    let gs = self.moves.regime.grants.now in
    let answer = subst (λ p. Answered (g.P.Policy.meaning p) (standing gs 0) c.in-Ok.property c.args.ticks.now c.args.places.now c.judge.new.places c.args.steps.now c.judge.new.steps c.judge.result) self.policy c.judge.ensures.answer in
    judges_found c.args.number c.args.ticks.now c.args.places.now c.judge.new.places c.args.steps.now c.judge.new.steps (shown self.sheet.now) self.sheet.now.fit c.in-Ok.property gs self.grants c.in-Ok.ensures c.judge.result answer
