use Rattle.std.proofs.Common.{refl}
use Rattle.sheet.proofs.Kept.{same_sheet, on_err}
use Rattle.sheet.proofs.Fitness.{struck}
use Rattle.sheet.proofs.sheet.Sheet.strike_property.Goals as goal

pub invariant_of-self : goal.invariant_of-self
invariant_of-self g c = record { undoable = c.args.self.now.undoable; fit = struck _ _ _ c.args.number _ c.strike.ensures.done c.args.self.now.fit }

pub returns-clause-kept : goal.returns-clause-kept
returns-clause-kept g c = on_err c.strike.result (λ same. same_sheet _ c.args.self.now refl refl refl same refl) c.strike.ensures.kept
