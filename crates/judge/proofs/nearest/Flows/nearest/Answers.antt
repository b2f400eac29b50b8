use Rattle.std.proofs.Common.{subst, arith}
use Rattle.access.specs.Contexts.{member}
use Rattle.judge.specs.Regimes.{meaning_of, grants_of}
use Rattle.judge.specs.Flows.{Best}
use Rattle.judge.proofs.nearest.Flows.nearest.Goals as goal

pub loop-a-preserved : goal.loop-a-preserved
loop-a-preserved g c =
    let f = c.args.self.now in
    subst (λ t. Best (meaning_of g.P.Policy.meaning f.moves.now.regime) (grants_of f.moves.now.regime) (member f.from) (member f.to) t c.visit-best.result) (omega arith) c.visit-best.ensures

pub returns-2 : goal.returns-2
returns-2 g c =
    let f = c.args.self.now in
    subst (λ t. Best (meaning_of g.P.Policy.meaning f.moves.now.regime) (grants_of f.moves.now.regime) (member f.from) (member f.to) t c.visit-best.result) (omega (arith, c.contexts-a-end.ensures)) c.visit-best.ensures
