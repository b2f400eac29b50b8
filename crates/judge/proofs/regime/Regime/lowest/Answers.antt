use Rattle.access.specs.Operations.{number_of}
use Rattle.judge.specs.Regimes.{grants_of}
use Rattle.judge.proofs.Selected.{lowest_can}
use Rattle.judge.proofs.regime.Regime.lowest.Goals as goal

pub origin-requires : goal.origin-requires
origin-requires g c =
    lowest_can (g.P.Policy.meaning c.args.self.now.policy.now) (grants_of c.args.self.now) c.args.s c.args.t c.args.among.bits c.and.result.bits c.possible.result.bits
    (number_of c.in_ok-operation.operation) c.and.ensures c.possible.ensures c.in_ok-operation.ensures
