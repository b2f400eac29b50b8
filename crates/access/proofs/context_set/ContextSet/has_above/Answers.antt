use Rattle.std.proofs.Common.{◌∙◌}
use Rattle.access.proofs.ContextLaws.{some_above}
use Rattle.access.proofs.context_set.ContextSet.has_above.Goals as goal

pub returns : goal.returns
returns c = c.is_some.ensures ∙ some_above c.args.n c.args.self c.first_above.result c.first_above.ensures
