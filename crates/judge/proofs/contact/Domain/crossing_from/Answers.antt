use Rattle.std.proofs.Common.{subst, sym}
use Rattle.access.specs.Contexts.{member}
use Rattle.judge.specs.Regimes.{meaning_of, grants_of}
use Rattle.judge.specs.Crossings.{AcrossFrom}
use Rattle.judge.proofs.Crosses.{crossing_none, crossing_some}
use Rattle.judge.proofs.contact.Domain.crossing_from.Goals as goal

pub returns-in_err-t : goal.returns-in_err-t
returns-in_err-t g c =
    let r = c.args.self.now.moves.now.regime in
    let m = meaning_of g.P.Policy.meaning r in
    let A = member c.args.self.now.set in
    subst (AcrossFrom m (grants_of r) A c.args.s m.contexts) (sym c.from_residual.ensures)
    (crossing_none m (grants_of r) (g.met.P.Policy.sound r.policy.now) A c.args.s c.across.result c.across.ensures c.in_err-t.ensures)

pub returns : goal.returns
returns g c =
    let r = c.args.self.now.moves.now.regime in
    let m = meaning_of g.P.Policy.meaning r in
    crossing_some m (grants_of r) (g.met.P.Policy.sound r.policy.now) (member c.args.self.now.set) c.args.s c.across.result c.across.ensures c.in_ok-t.t c.in_ok-t.ensures c.show.result c.show.ensures
