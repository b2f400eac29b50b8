use Rattle.std.proofs.Common.{rules}
use Rattle.judge.proofs.moves.Moves.from.Goals as goal

pub returns-in-Becoming : goal.returns-in-Becoming
returns-in-Becoming g c = let done = c.args.self.now.done c.args.context in let b = done.becoming in search rules

pub returns-in-Doing : goal.returns-in-Doing
returns-in-Doing g c = let done = c.args.self.now.done c.args.context in let b = done.doing in search rules
