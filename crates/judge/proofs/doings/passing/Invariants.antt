use Rattle.std.proofs.Common.{◌≡◌, ℕ, Bool}
use Rattle.judge.proofs.Collected.{Collected}
use Rattle.judge.proofs.doings.passing.Given as goal

abbrev pub invariant-loop-index : goal.invariant-loop-index
invariant-loop-index g l = (p : ℕ → Bool) → ((c : ℕ) (b : Bool) → goal.F-post g l.test c b → b ≡ p c) → Collected p l.index l.set
