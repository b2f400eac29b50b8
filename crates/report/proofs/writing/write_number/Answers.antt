use Rattle.std.proofs.Common.{arith}
use Rattle.std.proofs.lemmas.Fmt.{length-decimal-le}
use Rattle.report.proofs.writing.write_number.Goals as goal

pub write-requires : goal.write-requires
write-requires c = rw (c.as_bytes.ensures.value, c.format.ensures.text) (omega (arith, length-decimal-le 5 c.args.number (omega arith) (omega arith) (omega arith)))

pub returns-clause-short : goal.returns-clause-short
returns-clause-short c = length-decimal-le 5 c.args.number (omega arith) (omega arith) (omega arith)
