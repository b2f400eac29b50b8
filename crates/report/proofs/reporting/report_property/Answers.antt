use Rattle.std.proofs.Common.{arith}
use Rattle.sheet.specs.Shown.{shown}
use Rattle.report.proofs.Reports.{reports}
use Rattle.report.proofs.reporting.report_property.Goals as goal

pub returns-clause-answer : goal.returns-clause-answer
returns-clause-answer g c =
    reports (shown c.args.judging.now.sheet.now) c.args.number c.args.names.now c.args.ticks.now c.args.places.now c.judge.new.places c.args.steps.now c.judge.new.steps c.args.memory.now c.write_part.new.memory c.in_ok-verdict.verdict
    (g.met.P.Policy.sound c.args.judging.now.sheet.now.policy).few_contexts c.judge.auto.steps (omega arith) c.in_ok-verdict.ensures.answer c.write_part.result c.write_part.ensures
