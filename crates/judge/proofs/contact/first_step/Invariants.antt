use Rattle.std.proofs.Common.{ℕ, ◌<◌, ◌≤◌, None}
use Rattle.judge.proofs.contact.first_step.Given as goal

abbrev pub invariant-loop-context : goal.invariant-loop-context
invariant-loop-context g l = (c : ℕ) → 1 ≤ c → c < l.context → goal.F-post g l.look c None
