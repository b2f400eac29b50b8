use Rattle.access.specs.Operations.{number_of}
use Rattle.judge.specs.Regimes.{grants_of}
use Rattle.judge.proofs.Entries.{from_policy, some_giver, from_giver}
use Rattle.judge.proofs.regime.Regime.origin.Goals as goal

pub returns-then-has : goal.returns-then-has
returns-then-has g c = from_policy (g.P.Policy.meaning c.args.self.now.policy.now) (grants_of c.args.self.now) c.args.s c.args.t (number_of c.args.operation) (cc)

pub unwrap-requires : goal.unwrap-requires
unwrap-requires g c = some_giver (g.P.Policy.meaning c.args.self.now.policy.now) (grants_of c.args.self.now) c.args.s c.args.t (number_of c.args.operation) (cc) c.requires c.lowest_giver.result c.lowest_giver.ensures

pub returns : goal.returns
returns g c = from_giver (g.P.Policy.meaning c.args.self.now.policy.now) (grants_of c.args.self.now) c.args.s c.args.t (number_of c.args.operation) (cc) c.lowest_giver.result c.unwrap.result c.unwrap.ensures c.lowest_giver.ensures
