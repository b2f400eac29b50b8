use Rattle.sheet.specs.Shown.{shown}
use Rattle.sheet.specs.declared.request.Request.TheVariants.{EnterGrant}
use Rattle.sheet.proofs.MakingLaws.{refused}
use Rattle.sheet.proofs.sheet.Sheet.enter_grant.Goals as goal

pub returns-in_err-check_grant-clause-done : goal.returns-in_err-check_grant-clause-done
returns-in_err-check_grant-clause-done g c = refused (shown c.args.self.now) (EnterGrant c.args.number c.args.grant) c.in_err-check_grant.field-0.0 c.in_err-check_grant.ensures
