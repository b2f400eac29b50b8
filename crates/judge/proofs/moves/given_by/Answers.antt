use Rattle.std.proofs.Common.{rules}
use Rattle.judge.proofs.moves.given_by.Goals as goal

pub returns : goal.returns
returns c = c.passing.ensures _ (λ t b made. search rules)
