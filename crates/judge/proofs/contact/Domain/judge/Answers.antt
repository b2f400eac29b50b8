use Rattle.std.proofs.Common.{refl, arith}
use Rattle.access.specs.Contexts.{member}
use Rattle.judge.specs.Regimes.{meaning_of, grants_of}
use Rattle.judge.proofs.Crosses.{contact_some, contact_none}
use Rattle.judge.proofs.contact.Domain.judge.Goals as goal

pub returns-in-None : goal.returns-in-None
returns-in-None g c = (contact_none (meaning_of g.P.Policy.meaning c.args.self.now.moves.now.regime) (grants_of c.args.self.now.moves.now.regime) (g.met.P.Policy.sound c.args.self.now.moves.now.regime.policy.now) (member c.args.self.now.set) c.in-None.ensures, refl)

pub write-requires : goal.write-requires
write-requires g c = omega (arith, c.requires, (g.met.P.Policy.sound c.args.self.now.moves.now.regime.policy.now).a_context)

pub returns-in-Some : goal.returns-in-Some
returns-in-Some g c =
    let r = c.args.self.now.moves.now.regime in
    rw (c.write.ensures.count, c.write.ensures.written) (contact_some (meaning_of g.P.Policy.meaning r) (grants_of r) (g.met.P.Policy.sound r.policy.now) (member c.args.self.now.set) c.args.steps.now c.in-Some.step c.requires c.in-Some.ensures)
