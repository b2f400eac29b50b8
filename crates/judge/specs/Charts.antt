-- What the code's charts mean.
use Rattle.std.specs.Prelude.{ℕ, Bool, List, [], slice_index_or}
use Rattle.access.specs.Contexts.{member}
use Rattle.access.specs.declared.context_set.ContextSet.{ContextSet}
use Rattle.access.specs.declared.policy.Policy.{Ghosts as Policy}
use Rattle.search.specs.Problem.{Problem}
use Rattle.search.specs.Queue.{Found}
use Rattle.search.specs.declared.breadth_first.Place.{Place}
use Rattle.judge.specs.Regimes.{meaning_of, grants_of}
use Rattle.judge.specs.declared.activity.Activity.{Ghosts as Activity}
use Rattle.judge.specs.Nodes.{phase, context}
use Rattle.judge.specs.Plan.{plan}
use Rattle.judge.specs.declared.chart.Chart.{Chart}

-- what is read behind the last phase
abbrev pub behind : ContextSet
behind = record { words = [] }

-- whether a node is in a set of nodes that is kept as the contexts of each phase, over n contexts
abbrev pub in_phases : ℕ → List ContextSet → ℕ → Bool
in_phases n sets v = member (slice_index_or sets (phase n v) behind) (context n v)

module _ {X P : Type 0} {A : Activity X} {B : Policy P} (chart : Chart X P A B) where
  -- the graph in which a chart seeks
  abbrev pub problem_of : Problem
  problem_of = plan A.kind (meaning_of B.meaning chart.moves.now.regime) (grants_of chart.moves.now.regime) (member chart.from) (member chart.to)

  -- the place `last` was found in it
  abbrev pub FoundOn : List Place → ℕ → Type 0
  FoundOn places last = Found problem_of places last

  -- a set of nodes, as a chart keeps it: the contexts of each phase
  abbrev pub holds : List ContextSet → ℕ → Bool
  holds = in_phases (meaning_of B.meaning chart.moves.now.regime).contexts
