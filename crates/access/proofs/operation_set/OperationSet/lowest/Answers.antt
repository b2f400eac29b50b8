use Rattle.access.proofs.OperationLaws.{lowest_told}
use Rattle.access.proofs.operation_set.OperationSet.lowest.Goals as goal

pub returns : goal.returns
returns c = rw c.ok.ensures.value (lowest_told c.args.self.bits c.try_from.result c.try_from.ensures)
