-- What the code's ways mean.
use Rattle.std.specs.Prelude.{ℕ, Bool, List}
use Rattle.access.specs.declared.policy.Policy.{Ghosts as Policy}
use Rattle.search.specs.Queue.{at}
use Rattle.judge.specs.Regimes.{meaning_of, grants_of}
use Rattle.judge.specs.declared.step.Step.{Step}
use Rattle.judge.specs.declared.activity.Activity.{Ghosts as Activity}
use Rattle.judge.specs.Traced.{Turned, Traced}
use Rattle.judge.specs.Plan.{line}
use Rattle.judge.specs.declared.way.Way.{Way}

module _ {X P : Type 0} {A : Activity X} {B : Policy P} (way : Way X P A B) where
  -- how many edges it has
  abbrev pub depth_of : ℕ
  depth_of = (at way.places.now way.last).depth

  -- its node at a depth
  abbrev pub line_of : ℕ → ℕ
  line_of = line way.places.now way.last

  -- from depth `turn` on it is in the last phase
  abbrev pub TurnedOn : ℕ → Type 0
  TurnedOn = Turned A.kind (meaning_of B.meaning way.chart.now.moves.now.regime).contexts line_of depth_of

  -- it is shown by the steps, from the turn on in reverse where it goes backwards
  abbrev pub TracedOn : Bool → List Step → Type 0
  TracedOn back = Traced A.kind (meaning_of B.meaning way.chart.now.moves.now.regime) (grants_of way.chart.now.moves.now.regime) back line_of depth_of
