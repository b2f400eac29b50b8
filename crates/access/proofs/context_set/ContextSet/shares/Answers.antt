use Rattle.std.proofs.Common.{◌&&◌, ◌∙◌}
use Rattle.access.specs.Contexts.{member}
use Rattle.access.proofs.ContextLaws.{above_zero}
use Rattle.access.proofs.context_set.ContextSet.shares.Goals as goal

pub returns : goal.returns
returns c = c.has_above.ensures ∙ above_zero 256 (member c.and.result) (λ d. member c.args.self d && member c.args.other d) c.and.ensures
