use Rattle.std.proofs.Common.{refl, sym, ◌∙◌}
use Rattle.sheet.proofs.Kept.{same_sheet, is_none}
use Rattle.sheet.proofs.sheet.Sheet.adopt.Goals as goal

pub returns-then-is_none-clause-kept : goal.returns-then-is_none-clause-kept
returns-then-is_none-clause-kept g c = same_sheet _ c.args.self.now refl refl refl refl (c.take.ensures.after ∙ sym (is_none c.take.result c.if-is_none.ensures) ∙ c.take.ensures.value)
