use Rattle.std.proofs.Common.{◌≡◌, ℕ, ◌+◌, ◌<◌, ◌≤◌, length, get_or}
use Rattle.judge.proofs.by_context.ByContext.of.Given as goal

abbrev pub invariant-loop-index : goal.invariant-loop-index
invariant-loop-index g l = (length l.kept ≡ 256) × ((i : ℕ) → i < l.index → goal.F-post g l.value (i + 1) (get_or l.kept i l.blank)) × ((i : ℕ) → l.index ≤ i → get_or l.kept i l.blank ≡ l.blank)
