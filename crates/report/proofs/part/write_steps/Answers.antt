use Rattle.std.proofs.Common.{arith}
use Rattle.report.specs.Parts.{step_line}
use Rattle.report.proofs.Joins.{wrote_next}
use Rattle.report.proofs.part.write_steps.Goals as goal

pub loop-step-preserved : goal.loop-step-preserved
loop-step-preserved c = (
  wrote_next (step_line c.args.names.now) c.args.steps.now c.loop-step.step-index _ c.loop-step-test.true c.loop-step.invariant.0 c.write_step.ensures.wrote,
  omega (arith, c.loop-step.invariant.1, c.write_step.ensures.short),
)
