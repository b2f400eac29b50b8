use Rattle.record_table.specs.TableLaws.{add_wrote}
use Rattle.record_table.proofs.table.RecordTable.add.Goals as goal

pub replace-requires : goal.replace-requires
replace-requires c =
    let w = add_wrote c.args.self.now c.args.subject c.args.target c.requires.pair c.args.operations.bits c.requires.some c.requires.known c.requires.lacks c.requires.room in
    rw (c.push.ensures, c.at.ensures, c.from.ensures, c.first-number.ensures) w.sound

pub returns : goal.returns
returns c =
    let w = add_wrote c.args.self.now c.args.subject c.args.target c.requires.pair c.args.operations.bits c.requires.some c.requires.known c.requires.lacks c.requires.room in
    rw (c.replace.ensures.contexts, c.replace.ensures.chains, c.push.ensures, c.at.ensures, c.from.ensures, c.first-number.ensures) w.means
