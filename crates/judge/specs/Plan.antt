-- The graph that is searched for an activity, and the way back from a place that was found.
use Rattle.std.specs.Prelude.{ℕ, zero, suc, ◌+◌, ◌-◌, ◌*◌, Bool, ◌&&◌, List, Option}
use Rattle.access.specs.Contexts.{inside}
use Rattle.access.specs.Policy.{Meaning}
use Rattle.verdicts.specs.Runs.{Grants}
use Rattle.verdicts.specs.Searches.{Search}
use Rattle.search.specs.Problem.{Problem, First}
use Rattle.search.specs.Queue.{at}
use Rattle.search.specs.declared.breadth_first.Place.{Place}
use Rattle.judge.specs.Nodes.{context, edge, source, target}

-- the members of a set that are contexts
abbrev pub among : ℕ → (ℕ → Bool) → ℕ → Bool
among n A c = inside n c && A c

-- the graph of a kind of activity, from the contexts of A to those of B
abbrev pub plan : Search → Meaning → Grants → (ℕ → Bool) → (ℕ → Bool) → Problem
plan kind m gs A B =
    record {
      nodes = kind.phases * m.contexts;
      edge = edge kind m gs;
      source = source m.contexts (among m.contexts A);
      target = target m.contexts B;
    }

-- the first node of a phase whose context passes a test, over n contexts
abbrev pub FirstInPhase : ℕ → (ℕ → Bool) → ℕ → Option ℕ → Type 0
FirstInPhase n test phase r = First (λ v. test (context n v)) (phase * n) (phase * n + n) r

-- the i-th place back from a place
abbrev pub up : List Place → ℕ → ℕ → ℕ
up ps last zero = last
up ps last (suc i) = (at ps (up ps last i)).parent

-- the node at depth d on the way to the place `last`
abbrev pub line : List Place → ℕ → ℕ → ℕ
line ps last d = (at ps (up ps last ((at ps last).depth - d))).node
