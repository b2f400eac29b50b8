use Rattle.std.proofs.Common.{arith}
use Rattle.sheet.proofs.Listed.{listed_put}
use Rattle.sheet.proofs.table.Table.put.Goals as goal

pub returns-in-Some : goal.returns-in-Some
returns-in-Some g c = listed_put g.row.N c.args.self.now.entries c.args.number c.in-Some.index c.args.entry c.in-Some.ensures (omega arith)
