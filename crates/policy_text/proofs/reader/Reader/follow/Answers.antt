use Rattle.std.proofs.Common.{option_map, refl}
use Rattle.words.specs.Left.{seen, left}
use Rattle.policy_text.specs.Calls.{setting_call, grant_call, property_call}
use Rattle.policy_text.proofs.Calling.{followed_call, some_context}
use Rattle.policy_text.proofs.reader.Reader.follow.Goals as goal

pub returns-in-Vector : goal.returns-in-Vector
returns-in-Vector c =
    let v = c.in-Vector in
    rw v.is (λ p holds may. let o = c.open.ensures p holds (some_context p may) in followed_call p _ _ (λ names b. setting_call names b (seen v.subject) (seen v.target) (left v.operations)) _ o refl refl c.add.ensures)

pub returns-in-Grant : goal.returns-in-Grant
returns-in-Grant c =
    let v = c.in-Grant in
    rw v.is (λ p holds may. let o = c.open-in-Grant.ensures p holds (some_context p may) in followed_call p _ _ (λ names b. grant_call names (seen v.number) (seen v.subjects) (seen v.targets) (left v.operations)) _ o refl refl c.enter_grant.ensures)

pub returns-in-Property : goal.returns-in-Property
returns-in-Property c =
    let v = c.in-Property in
    rw v.is (λ p holds may. let o = c.open-in-Property.ensures p holds (some_context p may) in followed_call p _ _ (λ names b. property_call names (seen v.number) (seen v.template) (seen v.first) (option_map seen v.second)) _ o refl refl c.enter_property.ensures)
