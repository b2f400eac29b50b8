use Rattle.std.proofs.Common.{sym, subst}
use Rattle.access.specs.Contexts.{member}
use Rattle.judge.specs.Regimes.{meaning_of, grants_of}
use Rattle.access.specs.declared.property.Template.{Template}
use Rattle.judge.specs.Judged.{forbidding, Judged}
use Rattle.judge.proofs.Verdicts.{by_push, by_pull}
use Rattle.judge.proofs.judging.decide.Goals as goal

pub returns-in-Integrity-clause-judged : goal.returns-in-Integrity-clause-judged
returns-in-Integrity-clause-judged g c =
    by_push (meaning_of g.P.Policy.meaning c.args.moves.now.regime) (grants_of c.args.moves.now.regime) c.args.steps.now c.by_search.new.steps (member c.args.property.first) (member c.args.property.second) c.args.property.template c.by_search.result
    c.in-Integrity.is c.requires.inside c.by_search.ensures.told

pub returns-in-Confidentiality-clause-judged : goal.returns-in-Confidentiality-clause-judged
returns-in-Confidentiality-clause-judged g c =
    by_pull (meaning_of g.P.Policy.meaning c.args.moves.now.regime) (grants_of c.args.moves.now.regime) c.args.steps.now c.by_search-in-Confidentiality.new.steps (member c.args.property.first) (member c.args.property.second) c.args.property.template c.by_search-in-Confidentiality.result
    c.in-Confidentiality.is c.requires.inside c.by_search-in-Confidentiality.ensures.told

pub returns-in-Domain-clause-judged : goal.returns-in-Domain-clause-judged
returns-in-Domain-clause-judged g c =
    let m = meaning_of g.P.Policy.meaning c.args.moves.now.regime in
    subst (λ (t : Template). Judged m (grants_of c.args.moves.now.regime) (forbidding t (member c.args.property.first) (member c.args.property.second)) c.args.steps.now c.judge.new.steps c.judge.result) (sym c.in-Domain.is) c.judge.ensures

pub returns-in-Consistency-clause-judged : goal.returns-in-Consistency-clause-judged
returns-in-Consistency-clause-judged g c =
    let m = meaning_of g.P.Policy.meaning c.args.moves.now.regime in
    subst (λ (t : Template). Judged m (grants_of c.args.moves.now.regime) (forbidding t (member c.args.property.first) (member c.args.property.second)) c.args.steps.now c.judge-in-Consistency.new.steps c.judge-in-Consistency.result) (sym c.in-Consistency.is)
    c.judge-in-Consistency.ensures.told
