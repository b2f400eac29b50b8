use Rattle.access.specs.Contexts.{member}
use Rattle.judge.specs.Regimes.{meaning_of, grants_of}
use Rattle.judge.proofs.Sources.{nothing_left, measured_from}
use Rattle.judge.proofs.nearest.Flows.measure_from.Goals as goal

pub returns-then-is_empty : goal.returns-then-is_empty
returns-then-is_empty g c =
    nothing_left (meaning_of g.P.Policy.meaning c.args.self.now.moves.now.regime) (grants_of c.args.self.now.moves.now.regime) (g.met.P.Policy.sound c.args.self.now.moves.now.regime.policy.now) (member c.args.self.now.to) c.args.a c.ends-ends.result c.ends-ends.ensures c.if-is_empty.ensures

pub returns : goal.returns
returns g c =
    measured_from (meaning_of g.P.Policy.meaning c.args.self.now.moves.now.regime) (grants_of c.args.self.now.moves.now.regime) (g.met.P.Policy.sound c.args.self.now.moves.now.regime.policy.now) (member c.args.self.now.to) c.args.a c.ends-ends.result c.ends-ends.ensures
    c.none.result c.with-one.result c.requires.first c.requires.last c.none.ensures c.with-one.ensures c.unwrap.result (rw c.unwrap.ensures at c.measure.ensures.answer).1
