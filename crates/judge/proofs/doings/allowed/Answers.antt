use Rattle.std.proofs.Common.{rules}
use Rattle.judge.proofs.doings.allowed.Goals as goal

pub returns : goal.returns
returns c = c.passing.ensures _ (λ t b made. search rules)
