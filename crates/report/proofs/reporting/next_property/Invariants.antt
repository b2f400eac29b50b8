use Rattle.std.proofs.Common.{◌≡◌, ℕ, ◌<◌, None}
use Rattle.sheet.specs.Shown.{shown}
use Rattle.report.proofs.reporting.next_property.Given as goal

abbrev pub invariant-loop-number : goal.invariant-loop-number
invariant-loop-number g l =
    (k : ℕ) → l.after < k → k < l.number → (shown l.judging.sheet.now).properties k ≡ None
