use Rattle.record_table.proofs.ChainedLaws.{table_chained}
use Rattle.record_table.proofs.table.RecordTable.chains_stand.Goals as goal

pub returns : goal.returns
returns c = table_chained c.args.self.now
