use Rattle.access.proofs.Settings.{answer_ok}
use Rattle.judge.specs.Regimes.{meaning_of, grants_of}
use Rattle.judge.specs.Judged.{property_of}
use Rattle.judge.proofs.Fit.{fit_judged, of_contexts}
use Rattle.judge.proofs.Verdicts.{sure}
use Rattle.judge.proofs.judging.judge.Goals as goal

pub decide-requires-clause-inside : goal.decide-requires-clause-inside
decide-requires-clause-inside g c = of_contexts _ c.args.property (fit_judged _ c.args.property _ _ _ (answer_ok _ (rw c.contexts.ensures at c.in_default.ensures)))

pub returns-clause-answer : goal.returns-clause-answer
returns-clause-answer g c =
    let j = c.decide.ensures.judged in (
      answer_ok _ (rw c.contexts.ensures at c.in_default.ensures),
      j,
      sure (meaning_of g.P.Policy.meaning c.args.moves.now.regime) (grants_of c.args.moves.now.regime) c.args.steps.now c.decide.new.steps (property_of c.args.property) c.decide.result j,
    )
