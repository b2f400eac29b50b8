use Rattle.std.proofs.Common.{T, sym, ap, ◌∙◌, subst}
use Rattle.std.proofs.lemmas.Bool.{and_parts}
use Rattle.verdicts.specs.Possible.{makeable}
use Rattle.judge.specs.Regimes.{grants_of}
use Rattle.judge.proofs.Selected.{makeable_shown}
use Rattle.judge.proofs.chart.Chart.step.Goals as goal

pub unwrap-requires : goal.unwrap-requires
unwrap-requires g c =
    let m = g.P.Policy.meaning c.args.self.now.moves.now.regime.policy.now in
    makeable_shown m (grants_of c.args.self.now.moves.now.regime) _ (subst T (sym (ap (makeable m (grants_of c.args.self.now.moves.now.regime)) c.move_between.ensures ∙ (and_parts _ _ c.requires).1)) tt) c.show.result c.show.ensures
