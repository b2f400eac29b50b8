use Rattle.std.proofs.Common.{rules, ◌≡◌, subst}
use Rattle.std.proofs.lemmas.Fn.{fold_over, slice_gives, fronts}
use Rattle.verdicts.specs.Possible.{granted}
use Rattle.judge.specs.Grants.{standing}
use Rattle.judge.proofs.Entries.{granted_push}
use Rattle.judge.proofs.grant.granted_on.Goals as goal

pub returns : goal.returns
returns c =
    subst (λ os. c.fold.result.bits ≡ granted (standing os 0) c.args.s c.args.t) c.iter.ensures.rest
    (fold_over fronts (λ y. y.now) _ (λ os all. all.bits ≡ granted (standing os 0) c.args.s c.args.t) _ (λ os all o b f' j k. let more = granted_push os o.now 0 c.args.s c.args.t in search rules)
    _ _ _ _ (slice_gives c.iter.result) c.none.ensures c.fold.ensures.ran)
