use Rattle.std.proofs.Common.{sym, ◌∙◌, subst, arith}
use Rattle.std.proofs.lemmas.Bool.{eqb-true, eqb-false}
use Rattle.record_table.specs.Chains.{first_of}
use Rattle.record_table.specs.TableMeaning.{Own}
use Rattle.record_table.specs.TableLaws.{room_for_new, empty_done}
use Rattle.record_table.proofs.table.RecordTable.store.Goals as goal

pub add-requires-clause-room : goal.add-requires-clause-room
add-requires-clause-room c =
    let p = c.args.self.now in
    let lacks = subst (Own p c.args.subject c.args.target) c.in-None-false.is-0 c.requires.own in
    let some = room_for_new p c.args.subject c.args.target c.requires.pair c.args.operations.bits (sym c.in-None-false.ensures) lacks in
    omega (arith, eqb-false (first_of p.chains.heads 0) 0 (some ∙ c.requires.room))

pub returns-in-None-true : goal.returns-in-None-true
returns-in-None-true c =
    let p = c.args.self.now in
    let lacks = subst (Own p c.args.subject c.args.target) c.in-None-true.is-0 c.requires.own in
    rw (eqb-true c.args.operations.bits 0 (sym c.in-None-true.ensures)) (empty_done p c.args.subject c.args.target c.requires.pair lacks)
