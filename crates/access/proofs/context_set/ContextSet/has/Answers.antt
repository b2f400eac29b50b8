use Rattle.std.proofs.Common.{eqb, sym, ap, ◌∙◌}
use Rattle.std.proofs.lemmas.Nat.Bits.{shr_and_one}
use Rattle.access.proofs.ContextLaws.{index_told, member_at, member_off}
use Rattle.access.proofs.context_set.ContextSet.has.Goals as goal

pub returns-in_default : goal.returns-in_default
returns-in_default c = member_off c.args.self c.args.context c.in_default.ensures

pub returns : goal.returns
returns c =
    let p = index_told 256 c.args.context c.in-Some.i c.in-Some.ensures in
    rw p.1 (ap (λ x. eqb x 1) (shr_and_one _ _) ∙ sym (member_at c.args.self c.in-Some.i p.0))
