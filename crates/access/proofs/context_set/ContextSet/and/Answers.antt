use Rattle.std.proofs.Common.{◌&&◌, refl, rules}
use lib.Bits.{bit_and}
use Rattle.access.proofs.Bits.{has_and}
use Rattle.access.proofs.ContextLaws.{member_by, four}
use Rattle.access.proofs.context_set.ContextSet.and.Goals as goal

pub returns : goal.returns
returns c = member_by bit_and ◌&&◌ has_and refl _ c.args.self c.args.other (four _ (search rules) (search rules) (search rules) (search rules))
