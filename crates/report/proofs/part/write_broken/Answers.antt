use Rattle.report.proofs.Joins.{wrote_more}
use Rattle.report.proofs.part.write_broken.Goals as goal

pub returns : goal.returns
returns c = wrote_more (wrote_more (wrote_more c.write.ensures c.write_number.ensures.wrote) c.write-2.ensures) c.write_steps.ensures
