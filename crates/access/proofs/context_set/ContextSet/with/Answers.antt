use Rattle.std.proofs.Common.{refl, arith}
use Rattle.access.proofs.ContextLaws.{member_with}
use Rattle.access.proofs.context_set.ContextSet.with.Goals as goal

pub returns : goal.returns
returns c = member_with _ c.args.self c.args.context c.in-Some.i c.in-Some.ensures (omega arith) refl
