use Rattle.std.proofs.Common.{◌-◌}
use Rattle.access.specs.Contexts.{member}
use Rattle.judge.specs.Regimes.{meaning_of, grants_of}
use Rattle.judge.specs.Flows.{Best}
use Rattle.judge.proofs.nearest.Flows.nearest.Given as goal

abbrev pub invariant-loop-a : goal.invariant-loop-a
invariant-loop-a g l = Best (meaning_of g.P.Policy.meaning l.self.moves.now.regime) (grants_of l.self.moves.now.regime) (member l.self.from) (member l.self.to) (l.a - 1) l.best
