use Rattle.std.proofs.Common.{arith}
use Rattle.access.proofs.Marks.{told_by_members}
use Rattle.access.proofs.context_set.ContextSet.is_its_members.Goals as goal

pub returns : goal.returns
returns c = told_by_members c.args.self (omega arith) (omega arith) (omega arith) (omega arith) (omega arith)
