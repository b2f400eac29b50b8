use Rattle.std.proofs.Common.{sym, subst}
use Rattle.record_table.specs.TableMeaning.{Own}
use Rattle.record_table.specs.TableLaws.{room_for_own, room_for_new}
use Rattle.record_table.proofs.table.RecordTable.lacks_room.Goals as goal

pub returns-in-Some : goal.returns-in-Some
returns-in-Some c = λ s t at own. sym (room_for_own c.args.self.now s t at c.args.operations.bits c.in-Some.field-0 (subst (Own c.args.self.now s t) c.in-Some.is own))

pub returns-then-not-is_empty : goal.returns-then-not-is_empty
returns-then-not-is_empty c = λ s t at own.
    rw c.first.ensures (room_for_new c.args.self.now s t at c.args.operations.bits (sym c.if-not-is_empty.ensures) (subst (Own c.args.self.now s t) c.in-None.is own))
