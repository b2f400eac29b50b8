use Rattle.std.proofs.Common.{⊎_elim, rules}
use Rattle.std.proofs.lemmas.Bool.{cases_Bool}
use Rattle.access.specs.Contexts.{inside}
use Rattle.judge.specs.Regimes.{grants_of}
use Rattle.judge.proofs.Worked.{nothing_done}
use Rattle.judge.proofs.doings.doings_of.Goals as goal

pub returns : goal.returns
returns g c = λ s.
    let p = c.args.regime.now.policy.now in
    ⊎_elim
    (λ e. let done = c.of.ensures.given s in search rules)
    (λ e. let none = nothing_done (g.P.Policy.meaning p) (grants_of c.args.regime.now) (g.met.P.Policy.sound p) s c.nothing.result e c.nothing.ensures in let other = c.of.ensures.others s in search rules)
    (cases_Bool (inside (g.P.Policy.meaning p).contexts s))
