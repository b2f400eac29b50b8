use Rattle.sheet.proofs.Listed.{listed_order}
use Rattle.sheet.proofs.table.Table.all.Goals as goal

pub returns-clause-ordered : goal.returns-clause-ordered
returns-clause-ordered g c = listed_order g.row.N c.args.self.now.entries c.args.self.now.sized
