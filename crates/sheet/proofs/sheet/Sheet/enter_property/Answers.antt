use Rattle.sheet.specs.Shown.{shown}
use Rattle.sheet.proofs.Fitness.{entered}
use Rattle.sheet.specs.declared.request.Request.TheVariants.{EnterProperty}
use Rattle.sheet.proofs.MakingLaws.{refused}
use Rattle.sheet.proofs.sheet.Sheet.enter_property.Goals as goal

pub invariant_of-self : goal.invariant_of-self
invariant_of-self g c = record { undoable = c.args.self.now.undoable; fit = entered (shown c.args.self.now) _ c.args.number c.args.property c.in_ok-check_property.ensures c.put.ensures c.args.self.now.fit }

pub returns-in_err-check_property-clause-done : goal.returns-in_err-check_property-clause-done
returns-in_err-check_property-clause-done g c = refused (shown c.args.self.now) (EnterProperty c.args.number c.args.property) c.in_err-check_property.field-0.0 c.in_err-check_property.ensures
