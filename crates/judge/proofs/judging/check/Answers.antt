use Rattle.std.proofs.Common.{rules}
use Rattle.access.proofs.Settings.{answer_err}
use Rattle.judge.proofs.judging.check.Goals as goal

pub returns-in_err-check : goal.returns-in_err-check
returns-in_err-check c = let r = answer_err _ _ c.in_err-check.ensures in rw r (search rules)
