use Rattle.std.proofs.Common.{◌&&◌, not, refl, rules}
use Rattle.access.specs.Operations.{without}
use Rattle.access.proofs.Bits.{has_without}
use Rattle.access.proofs.ContextLaws.{member_by, four}
use Rattle.access.proofs.context_set.ContextSet.without.Goals as goal

pub returns : goal.returns
returns c = member_by without (λ a b. a && not b) has_without refl _ c.args.self c.args.other (four _ (search rules) (search rules) (search rules) (search rules))
