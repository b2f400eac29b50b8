use Rattle.std.proofs.Common.{arith, rules}
use Rattle.std.proofs.lemmas.Bool.Decides.{nat_tests}
use Rattle.report.proofs.Joins.{wrote_more, in_front}
use Rattle.report.proofs.part.write_part.Goals as goal

pub returns : goal.returns
returns c = (
  grind (arith, nat_tests),
  in_front c.over-report.ensures.empty c.over-report.ensures.same (wrote_more c.write_number.ensures.wrote c.write_verdict.ensures) (search rules) c.len.ensures,
)
