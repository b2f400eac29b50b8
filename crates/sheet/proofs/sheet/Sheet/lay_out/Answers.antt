use Rattle.std.proofs.Common.{refl, sym, subst, arith}
use Rattle.sheet.specs.Entries.{Entries}
use Rattle.access.specs.declared.property.Property.{Property}
use Rattle.sheet.specs.Judging.{AllFit}
use Rattle.sheet.proofs.sheet.Sheet.lay_out.Goals as goal

pub invariant_of-result : goal.invariant_of-result
invariant_of-result g c = record { undoable = refl; fit = subst (λ (f : Entries Property). AllFit (g.P.Policy.meaning c.args.policy).contexts f) (sym c.new-2.ensures) (λ k p e. absurd (grind arith)) }
