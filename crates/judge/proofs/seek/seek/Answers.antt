use Rattle.std.proofs.Common.{◌≡◌, ℕ, ◌≤◌, false, length, None, Some, Ok, rules, sym, refl, subst, arith}
use Rattle.access.specs.Contexts.{member}
use Rattle.search.specs.Queue.{at}
use Rattle.judge.specs.Regimes.{meaning_of, grants_of}
use Rattle.judge.specs.Traced.{Traced}
use Rattle.judge.specs.Found.{Leads, Searched}
use Rattle.judge.specs.Plan.{among, line}
use Rattle.judge.specs.Sought.{short}
use Rattle.judge.proofs.Memory.{steps_fit}
use Rattle.judge.proofs.Charted.{few_edges}
use Rattle.judge.proofs.Sought.{told, found_sought}
use Rattle.judge.proofs.Trailed.{none_trailed}
use Rattle.judge.proofs.seek.seek.Goals as goal

pub returns-in_default-clause-answer : goal.returns-in_default-clause-answer
returns-in_default-clause-answer g c =
    let m = g.P.Policy.meaning c.args.moves.now.regime.policy.now in
    let gs = grants_of c.args.moves.now.regime in
    let is : c.search.result ≡ Ok None = search rules in
    let answer = told c.between-chart.result c.between-chart.ensures.moves c.between-chart.ensures.from c.between-chart.ensures.to c.search.new.places None is c.search.ensures.answer c.search.ensures.kept in (
      search rules,
      (none_trailed m gs (g.met.P.Policy.sound c.args.moves.now.regime.policy.now) g.met.A.Activity.lawful (member c.args.from) (member c.args.to) answer.1, refl),
      answer.2,
    )

pub write-requires : goal.write-requires
write-requires g c =
    let m = g.P.Policy.meaning c.args.moves.now.regime.policy.now in
    let gs = grants_of c.args.moves.now.regime in
    let is : c.search.result ≡ Ok (Some c.in-Some.last) = search rules in
    let answer = told c.between-chart.result c.between-chart.ensures.moves c.between-chart.ensures.from c.between-chart.ensures.to c.search.new.places (Some c.in-Some.last) is c.search.ensures.answer c.search.ensures.kept in
    let enough : short g.A.Activity.kind.phases m.contexts (length c.args.ticks.now) (length c.args.places.now) (length c.args.steps.now) ≡ false = search rules in
    let room : m.contexts ≤ length c.args.steps.now = steps_fit _ m.contexts _ _ _ enough in
    omega (arith, few_edges g.A.Activity.kind m gs (member c.args.from) (member c.args.to) (g.met.P.Policy.sound c.args.moves.now.regime.policy.now) c.search.new.places c.in-Some.last answer.1, room)

pub returns-clause-answer : goal.returns-clause-answer
returns-clause-answer g c =
    let m = g.P.Policy.meaning c.args.moves.now.regime.policy.now in
    let gs = grants_of c.args.moves.now.regime in
    let ps = c.search.new.places in
    let last = c.in-Some.last in
    let is : c.search.result ≡ Ok (Some c.in-Some.last) = search rules in
    let answer = told c.between-chart.result c.between-chart.ensures.moves c.between-chart.ensures.from c.between-chart.ensures.to ps (Some last) is c.search.ensures.answer c.search.ensures.kept in
    let enough : short g.A.Activity.kind.phases m.contexts (length c.args.ticks.now) (length c.args.places.now) (length c.args.steps.now) ≡ false = search rules in
    let room = steps_fit _ m.contexts _ _ _ enough in
    let shown = subst (λ v. Traced g.A.Activity.kind (meaning_of g.P.Policy.meaning v.regime) (grants_of v.regime) g.A.Activity.BACKWARDS (line ps last) (at ps last).depth c.write.new.steps) c.between-chart.ensures.moves c.write.ensures.shown in
    let sought = found_sought m gs (g.met.P.Policy.sound c.args.moves.now.regime.policy.now) g.met.A.Activity.lawful (member c.args.from) (member c.args.to) ps last answer.1 c.args.steps.now c.write.new.steps room c.write.auto.steps shown c.write.ensures.rest in (
      enough,
      subst (λ (k : ℕ). Searched m gs (Leads g.A.Activity.activities (among m.contexts (member c.args.from)) (member c.args.to)) g.A.Activity.BACKWARDS c.args.steps.now c.write.new.steps (Some k)) (sym c.write.ensures.all) sought,
      answer.2,
    )
