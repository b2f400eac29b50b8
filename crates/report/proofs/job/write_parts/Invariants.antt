use Rattle.std.proofs.Common.{◌-◌}
use Rattle.sheet.specs.Shown.{shown}
use Rattle.report.proofs.Parts.{Going}
use Rattle.report.proofs.job.write_parts.Given as goal

abbrev pub invariant-loop-number : goal.invariant-loop-number
invariant-loop-number g l = Going (shown l.judging.sheet.now) l.names (g.W.Write.contents l.fn.out) (g.W.Write.contents l.out) l.after

abbrev pub decreases-loop-number : goal.decreases-loop-number
decreases-loop-number g l = 64 - l.after
