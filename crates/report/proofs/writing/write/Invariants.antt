use Rattle.std.proofs.Common.{take}
use Rattle.report.specs.Written.{Wrote}
use Rattle.report.proofs.writing.write.Given as goal

abbrev pub invariant-loop-byte : goal.invariant-loop-byte
invariant-loop-byte l = Wrote l.initial.report (take l.byte-index l.bytes) l.report
