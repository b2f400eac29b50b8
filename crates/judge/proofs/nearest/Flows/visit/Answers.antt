use Rattle.std.proofs.Common.{T, sym, subst}
use Rattle.access.specs.Contexts.{member}
use Rattle.judge.specs.Regimes.{meaning_of, grants_of}
use Rattle.judge.specs.Flows.{Best}
use Rattle.judge.proofs.Sources.{looked_at, passed_over}
use Rattle.judge.proofs.nearest.Flows.visit.Goals as goal

pub returns-else-has : goal.returns-else-has
returns-else-has g c =
    let f = c.args.self.now in
    passed_over (meaning_of g.P.Policy.meaning f.moves.now.regime) (grants_of f.moves.now.regime) (member f.from) (member f.to) c.args.a c.requires.first c.args.best c.if-has.ensures c.requires.so

pub returns-then-has : goal.returns-then-has
returns-then-has g c =
    let f = c.args.self.now in
    let m = meaning_of g.P.Policy.meaning f.moves.now.regime in
    let gs = grants_of f.moves.now.regime in
    subst (Best m gs (member f.from) (member f.to) c.args.a) (sym c.nearer.ensures)
    (looked_at m gs (member f.from) (member f.to) c.args.a c.requires.first c.args.best c.measure_from.result (subst T c.if-has.ensures tt) c.requires.so c.measure_from.ensures)
