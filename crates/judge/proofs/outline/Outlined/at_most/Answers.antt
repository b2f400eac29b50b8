use Rattle.std.proofs.Common.{T, ap, ap₂, ◌∙◌, sym, subst}
use lib.Bits.{bit_and}
use Rattle.std.proofs.lemmas.Bool.{and_parts}
use Rattle.access.specs.Operations.{has}
use Rattle.judge.specs.Regimes.{grants_of}
use Rattle.judge.proofs.Outlined.{both_hold}
use Rattle.judge.proofs.outline.Outlined.at_most.Goals as goal

pub returns : goal.returns
returns g c = λ inside o h.
    let both = and_parts _ _ inside in
    let to = c.args.self.now.all_to c.args.s both.0 in
    let on = c.args.self.now.all_on c.args.t both.1 in
    subst (λ x. T (has x o)) (sym (c.and.ensures ∙ ap₂ bit_and (ap (λ x. x.bits) c.at.ensures ∙ to) (ap (λ x. x.bits) c.at-2.ensures ∙ on)))
    (both_hold (grants_of c.args.self.now.regime.now) c.args.s c.args.t o h)
