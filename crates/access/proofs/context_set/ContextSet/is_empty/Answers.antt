use Rattle.std.proofs.Common.{not, refl, ap, ◌∙◌}
use Rattle.access.specs.Contexts.{member}
use Rattle.access.proofs.ContextLaws.{above_zero}
use Rattle.access.proofs.context_set.ContextSet.is_empty.Goals as goal

pub returns : goal.returns
returns c = ap not (c.has_above.ensures ∙ above_zero 256 (member c.args.self) (member c.args.self) (λ d. refl))
