use Rattle.std.proofs.Common.{refl}
use Rattle.sheet.proofs.Kept.{same_sheet, on_err}
use Rattle.sheet.proofs.sheet.Sheet.strike_grant.Goals as goal

pub returns-clause-kept : goal.returns-clause-kept
returns-clause-kept g c = on_err c.strike.result (λ same. same_sheet _ c.args.self.now refl refl same refl refl) c.strike.ensures.kept
