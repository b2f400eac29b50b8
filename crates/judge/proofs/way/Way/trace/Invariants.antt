use Rattle.std.proofs.Common.{◌≡◌, length}
use Rattle.judge.specs.Regimes.{grants_of}
use Rattle.judge.specs.Traced.{ShownFrom, SameFrom}
use Rattle.judge.specs.Ways.{depth_of, line_of}
use Rattle.judge.proofs.Lines.{Climb}
use Rattle.judge.proofs.way.Way.trace.Given as goal

abbrev pub invariant-loop-left : goal.invariant-loop-left
invariant-loop-left g l =
    record {
      climb : Climb l.self.places.now l.self.last l.here l.left;
      shown : ShownFrom g.A.Activity.kind (g.P.Policy.meaning l.self.chart.now.moves.now.regime.policy.now) (grants_of l.self.chart.now.moves.now.regime) g.A.Activity.BACKWARDS (line_of l.self) l.turn (depth_of l.self) l.left l.steps.items.now;
      same : SameFrom (depth_of l.self) l.initial.steps.items.now l.steps.items.now;
      lender : l.steps.items.ghost_name ≡ l.initial.steps.items.ghost_name;
      len : l.steps.len ≡ depth_of l.self;
      sized : length l.steps.items.now ≡ length l.initial.steps.items.now;
    }
