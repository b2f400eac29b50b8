use Rattle.report.proofs.Joins.{wrote_more}
use Rattle.report.proofs.part.write_step.Goals as goal

pub returns-clause-wrote : goal.returns-clause-wrote
returns-clause-wrote c =
    let subject = rw c.name.ensures.told at c.write_word.ensures in
    let operation = rw (c.as_bytes.ensures.value, c.name-2.ensures) at c.write_word-2.ensures in
    let target = rw c.name-3.ensures.told at c.write_word-3.ensures in
    let origin = wrote_more c.write.ensures c.write_number.ensures.wrote in
    wrote_more (wrote_more (wrote_more (wrote_more subject operation) target) origin) c.write-2.ensures
