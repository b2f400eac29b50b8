use Rattle.record_table.specs.TableLaws.{change_wrote}
use Rattle.record_table.proofs.table.RecordTable.change.Goals as goal

pub replace-requires : goal.replace-requires
replace-requires c =
    let w = change_wrote c.args.self.now c.args.subject c.args.target c.requires.pair c.args.operations.bits c.args.number c.requires.some c.requires.known c.requires.has in
    rw (c.put.ensures, c.at.ensures) w.sound

pub returns : goal.returns
returns c =
    let w = change_wrote c.args.self.now c.args.subject c.args.target c.requires.pair c.args.operations.bits c.args.number c.requires.some c.requires.known c.requires.has in
    rw (c.replace.ensures.contexts, c.replace.ensures.chains, c.put.ensures, c.at.ensures) w.means
