use Rattle.std.proofs.Common.{rules}
use Rattle.judge.proofs.moves.Moves.read_alone.Goals as goal

pub returns : goal.returns
returns g c = let done = c.args.self.now.done c.args.context in let alone = done.reading_alone in search rules
