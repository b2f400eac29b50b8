use Rattle.std.proofs.Common.{⊎_elim, rules}
use Rattle.std.proofs.lemmas.Bool.{cases_Bool}
use Rattle.access.specs.Contexts.{inside}
use Rattle.judge.specs.Regimes.{grants_of}
use Rattle.judge.specs.Contextual.{value_of}
use Rattle.judge.specs.Done.{Given}
use Rattle.judge.proofs.Worked.{giving_told, giving_none, getting_told, getting_none}
use Rattle.judge.proofs.moves.Moves.of.Goals as goal

pub invariant_of-result : goal.invariant_of-result
invariant_of-result g c =
    let p = c.args.regime.policy.now in
    let m = g.P.Policy.meaning p in
    let gs = grants_of c.args.regime in
    let l = g.met.P.Policy.sound p in
    let given : Given m gs c.of-giving.result = (λ giver.
    let set = value_of c.of-giving.result giver in
    ⊎_elim
    (λ e. let own = c.of-giving.ensures.given giver in let told = giving_told m gs l c.doings_of-doings.result c.doings_of-doings.ensures giver set in search rules)
    (λ e. let own = c.of-giving.ensures.others giver in let told = giving_none m gs l giver set in search rules)
    (cases_Bool (inside m.contexts giver))) in
    record {
      done = c.doings_of-doings.ensures;
      given = given;
      gotten = λ taker.
          let set = value_of c.of-getting.result taker in
          ⊎_elim
          (λ e. let own = c.of-getting.ensures.given taker in let told = getting_told m gs l c.of-giving.result given taker set in search rules)
          (λ e. let own = c.of-getting.ensures.others taker in let told = getting_none m gs l taker set in search rules)
          (cases_Bool (inside m.contexts taker));
    }
