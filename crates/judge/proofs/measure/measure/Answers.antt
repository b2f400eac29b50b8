use Rattle.std.proofs.Common.{◌≡◌, None, Some, Ok, rules, refl, sym, subst}
use Rattle.access.specs.Contexts.{member}
use Rattle.judge.specs.Regimes.{grants_of}
use Rattle.judge.specs.Found.{Leads, Shortest}
use Rattle.judge.specs.Plan.{among}
use Rattle.judge.proofs.Memory.{fitting}
use Rattle.judge.proofs.Sought.{told, shortest_sought}
use Rattle.judge.proofs.Trailed.{none_trailed}
use Rattle.judge.proofs.measure.measure.Goals as goal

pub returns-in_default-clause-answer : goal.returns-in_default-clause-answer
returns-in_default-clause-answer g c =
    let m = g.P.Policy.meaning c.args.moves.now.regime.policy.now in
    let gs = grants_of c.args.moves.now.regime in
    let is : c.search.result ≡ Ok None = search rules in
    let answer = told c.between-chart.result c.between-chart.ensures.moves c.between-chart.ensures.from c.between-chart.ensures.to c.search.new.places None is c.search.ensures.answer c.search.ensures.kept in (
      fitting _ _ _ _ _ refl answer.0,
      none_trailed m gs (g.met.P.Policy.sound c.args.moves.now.regime.policy.now) g.met.A.Activity.lawful (member c.args.from) (member c.args.to) answer.1,
      answer.2,
    )

pub returns-clause-answer : goal.returns-clause-answer
returns-clause-answer g c =
    let m = g.P.Policy.meaning c.args.moves.now.regime.policy.now in
    let gs = grants_of c.args.moves.now.regime in
    let is : c.search.result ≡ Ok (Some c.in-Some.last) = search rules in
    let answer = told c.between-chart.result c.between-chart.ensures.moves c.between-chart.ensures.from c.between-chart.ensures.to c.search.new.places (Some c.in-Some.last) is c.search.ensures.answer c.search.ensures.kept in (
      fitting _ _ _ _ _ refl answer.0,
      subst (Shortest m gs (Leads g.A.Activity.activities (among m.contexts (member c.args.from)) (member c.args.to))) (sym c.from.ensures)
          (shortest_sought m gs (g.met.P.Policy.sound c.args.moves.now.regime.policy.now) g.met.A.Activity.lawful (member c.args.from) (member c.args.to) c.search.new.places c.in-Some.last answer.1),
      answer.2,
    )
