use Rattle.access.specs.Contexts.{member}
use Rattle.judge.specs.Regimes.{meaning_of, grants_of}
use Rattle.judge.proofs.Sources.{searched_from}
use Rattle.judge.proofs.nearest.Flows.show_from.Goals as goal

pub returns-clause-shown : goal.returns-clause-shown
returns-clause-shown g c =
    searched_from (meaning_of g.P.Policy.meaning c.args.self.now.moves.now.regime) (grants_of c.args.self.now.moves.now.regime) (g.met.P.Policy.sound c.args.self.now.moves.now.regime.policy.now) (member c.args.self.now.to) c.args.a c.ends.result c.ends.ensures
    c.none.result c.with-one.result c.requires.first c.requires.last c.none.ensures c.with-one.ensures c.args.steps.now c.seek.new.steps c.unwrap.result (rw c.unwrap.ensures at c.seek.ensures.answer).1
