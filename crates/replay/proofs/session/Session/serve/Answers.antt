use Rattle.std.proofs.Common.{refl, ◌∙◌}
use Rattle.sheet.specs.Shown.{shown}
use Rattle.sheet.specs.declared.request.Request.TheVariants.{Set, EnterGrant, EnterProperty}
use Rattle.replay.proofs.Serving.{still_open, noting, judging_alters_nothing}
use Rattle.replay.proofs.session.Session.serve.Goals as goal

pub invariant_of-self : goal.invariant_of-self
invariant_of-self g c =
    let i = c.in-Set in
    record { holds = c.args.self.now.holds ∙ still_open (shown c.args.self.now.sheet) _ (Set i.subject i.target i.operations) (noting (shown c.args.self.now.sheet).change) c.set.ensures.done }

pub invariant_of-self-in-EnterGrant : goal.invariant_of-self-in-EnterGrant
invariant_of-self-in-EnterGrant g c =
    let i = c.in-EnterGrant in
    record { holds = c.args.self.now.holds ∙ still_open (shown c.args.self.now.sheet) _ (EnterGrant i.number i.grant) refl c.enter_grant.ensures.done }

pub invariant_of-self-in-EnterProperty : goal.invariant_of-self-in-EnterProperty
invariant_of-self-in-EnterProperty g c =
    let i = c.in-EnterProperty in
    record { holds = c.args.self.now.holds ∙ still_open (shown c.args.self.now.sheet) _ (EnterProperty i.number i.property) refl c.enter_property.ensures.done }

pub returns-in-Judge-clause-done : goal.returns-in-Judge-clause-done
returns-in-Judge-clause-done g c = let i = c.in-Judge in rw i.is (judging_alters_nothing (shown c.args.self.now.sheet) i.number i.ticks i.places i.steps)
