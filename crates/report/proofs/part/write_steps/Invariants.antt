use Rattle.std.proofs.Common.{◌+◌, ◌*◌, ◌≤◌, take}
use Rattle.report.specs.Written.{Wrote}
use Rattle.report.specs.Parts.{step_lines}
use Rattle.report.proofs.part.write_steps.Given as goal

abbrev pub invariant-loop-step : goal.invariant-loop-step
invariant-loop-step l =
    Wrote l.initial.report (step_lines l.names (take l.step-index l.steps)) l.report
    × (l.report.len ≤ l.initial.report.len + 49 * l.step-index)
