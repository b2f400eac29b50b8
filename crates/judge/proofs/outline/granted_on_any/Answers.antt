use Rattle.std.proofs.Common.{◌≡◌, rules, subst}
use Rattle.std.proofs.lemmas.Fn.{fold_over, slice_gives, fronts}
use Rattle.judge.specs.Grants.{standing}
use Rattle.judge.specs.Outlines.{offered}
use Rattle.judge.proofs.Outlined.{offered_push}
use Rattle.judge.proofs.outline.granted_on_any.Goals as goal

pub returns : goal.returns
returns c =
    subst (λ os. c.fold.result.bits ≡ offered (λ g. g.targets c.args.t) (standing os 0)) c.iter.ensures.rest
    (fold_over fronts (λ y. y.now) _ (λ os all. all.bits ≡ offered (λ g. g.targets c.args.t) (standing os 0)) _ (λ os all o b f' j k. let more = offered_push (λ g. g.targets c.args.t) os o.now 0 in search rules)
    _ _ _ _ (slice_gives c.iter.result) c.none.ensures c.fold.ensures.ran)
