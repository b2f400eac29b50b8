use Rattle.std.proofs.Common.{◌∙◌, sym, subst, arith}
use Rattle.std.proofs.lemmas.List.{length-take-le}
use Rattle.sheet.specs.Shown.{shown}
use Rattle.sheet.specs.declared.request.Request.TheVariants.{Judge}
use Rattle.replay.specs.Replies.{Reply, Right}
use Rattle.replay.proofs.Judgings.{judged, fits_steps}
use Rattle.replay.proofs.judging.judge.Goals as goal

pub shown_by-requires : goal.shown_by-requires
shown_by-requires g c = fits_steps (shown c.args.sheet.now) c.args.number _ _ _ _ _ (g.met.P.Policy.sound c.args.sheet.now.policy).few_contexts c.judge-verdict.result c.judge-verdict.ensures.answer

pub returns : goal.returns
returns g c =
    subst (λ (r : Reply). Right (shown c.args.sheet.now) (Judge c.args.number c.args.ticks c.args.places c.args.steps) r) (sym c.shown_by.ensures)
    (judged (shown c.args.sheet.now) c.args.number c.args.ticks c.args.places c.args.steps _ _ _ _ c.judge-verdict.new.steps _ (g.met.P.Policy.sound c.args.sheet.now.policy).few_contexts
    (length-take-le c.min.result _ (let e = c.min.ensures in omega arith) ∙ c.min.ensures)
    (length-take-le c.min-2.result _ (let e = c.min-2.ensures in omega arith) ∙ c.min-2.ensures)
    (length-take-le c.min-3.result _ (let e = c.min-3.ensures in omega arith) ∙ c.min-3.ensures) c.judge-verdict.auto.steps c.judge-verdict.result c.judge-verdict.ensures.answer)
