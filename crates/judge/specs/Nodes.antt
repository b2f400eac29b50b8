-- The graph of a kind of activity: a node is phase * n + (context - 1), over n contexts.
use Rattle.std.specs.Prelude.{ℕ, suc, ◌+◌, ◌-◌, ◌*◌, ◌/◌, ◌%◌, Bool, cond, ◌&&◌, ◌==◌, nat_le}
use Rattle.access.specs.Policy.{Meaning}
use Rattle.verdicts.specs.Runs.{Grants}
use Rattle.verdicts.specs.Activities.{Move}
use Rattle.verdicts.specs.Possible.{makeable}
use Rattle.verdicts.specs.Searches.{Search}

abbrev pub node : ℕ → ℕ → ℕ → ℕ
node n q c = q * n + (c - 1)

abbrev pub phase : ℕ → ℕ → ℕ
phase n v = v / n

abbrev pub context : ℕ → ℕ → ℕ
context n v = v % n + 1

-- the move by which an edge leads from one node to another
abbrev pub move_of : Search → ℕ → ℕ → ℕ → Move
move_of kind n u v = kind.move (phase n v) (context n u) (context n v)

abbrev pub edge : Search → Meaning → Grants → ℕ → ℕ → Bool
edge kind m gs u v = nat_le (phase m.contexts u) (phase m.contexts v) && makeable m gs (move_of kind m.contexts u v)

abbrev pub source : ℕ → (ℕ → Bool) → ℕ → Bool
source n A v = phase n v == 0 && A (context n v)

abbrev pub target : ℕ → (ℕ → Bool) → ℕ → Bool
target n B v = B (context n v)

-- where the move from depth d on is shown, of k moves: those from `turn` on are of the last phase
abbrev pub slot : Bool → ℕ → ℕ → ℕ → ℕ
slot back turn k d = cond (back && nat_le turn d) (turn + (k - suc d)) d
