use Rattle.std.proofs.Common.{refl, rules}
use Rattle.access.specs.Contexts.{member}
use Rattle.judge.specs.Regimes.{meaning_of, grants_of}
use Rattle.judge.proofs.Sources.{flow_none, flow_some}
use Rattle.judge.proofs.nearest.Flows.judge.Goals as goal

pub returns-in-None : goal.returns-in-None
returns-in-None g c =
    record {
      told = flow_none (meaning_of g.P.Policy.meaning c.args.self.now.moves.now.regime) (grants_of c.args.self.now.moves.now.regime) (member c.args.self.now.from) (member c.args.self.now.to) c.requires.from c.requires.to c.args.steps.now c.args.steps.now refl c.in-None.ensures;
      ticks = search rules;
    }

pub returns-in-Some-clause-told : goal.returns-in-Some-clause-told
returns-in-Some-clause-told g c =
    let f = c.args.self.now in
    flow_some (meaning_of g.P.Policy.meaning f.moves.now.regime) (grants_of f.moves.now.regime) (member f.from) (member f.to) c.requires.from c.requires.to c.in-Some.near c.in-Some.ensures c.args.steps.now c.show_from.new.steps c.unwrap-steps.result (rw c.unwrap-steps.ensures at c.show_from.ensures.shown)
