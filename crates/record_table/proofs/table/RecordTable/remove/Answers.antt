use Rattle.record_table.specs.TableLaws.{remove_wrote}
use Rattle.record_table.proofs.table.RecordTable.remove.Goals as goal

pub replace-requires : goal.replace-requires
replace-requires c =
    let w = remove_wrote c.args.self.now c.args.subject c.args.target c.requires.pair c.args.number c.requires.has c.unlink.ensures.within in
    rw (c.push.ensures, c.unlink.ensures.out, c.none.ensures) w.sound

pub returns : goal.returns
returns c =
    let w = remove_wrote c.args.self.now c.args.subject c.args.target c.requires.pair c.args.number c.requires.has c.unlink.ensures.within in
    rw (c.replace.ensures.contexts, c.replace.ensures.chains, c.push.ensures, c.unlink.ensures.out, c.none.ensures) w.means
