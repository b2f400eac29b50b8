use Rattle.report.proofs.Joins.{wrote_more}
use Rattle.report.proofs.writing.write_word.Goals as goal

pub returns : goal.returns
returns c = wrote_more c.write.ensures c.write-2.ensures
