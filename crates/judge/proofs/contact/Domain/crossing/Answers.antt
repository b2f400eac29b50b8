use Rattle.std.proofs.Common.{arith, rules}
use Rattle.judge.proofs.Crosses.{retold}
use Rattle.judge.proofs.contact.Domain.crossing.Goals as goal

pub returns : goal.returns
returns g c =
    retold c.first_step.result
    (λ none s low high. let e = none s low (omega (arith, c.contexts.ensures, high)) in search rules)
    (λ step some.
    record {
      subject = some.0;
      low = some.1;
      on = let e = some.2 in search rules;
      before = λ s low below. let e = some.3 s low below in search rules;
    })
    c.first_step.ensures
