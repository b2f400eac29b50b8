use Rattle.sheet.specs.Shown.{shown}
use Rattle.report.proofs.Reports.{without_memory}
use Rattle.report.proofs.reporting.refusal_without_memory.Goals as goal

pub returns-clause-answer : goal.returns-clause-answer
returns-clause-answer g c places steps =
    rw (c.unwrap_or.ensures, c.err.ensures.value) (without_memory (shown c.args.judging.now.sheet.now) c.args.number c.args.ticks.now _ _ places steps c.judge.result (c.judge.ensures.answer))
