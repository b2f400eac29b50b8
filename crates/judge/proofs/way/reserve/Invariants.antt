use Rattle.std.proofs.Common.{◌≡◌, ◌+◌, length}
use Rattle.judge.specs.Traced.{SameFrom}
use Rattle.judge.proofs.way.reserve.Given as goal

abbrev pub invariant-loop : goal.invariant-loop
invariant-loop l =
    (l.steps.items.ghost_name ≡ l.initial.steps.items.ghost_name)
    × (l.steps.len ≡ l.initial.steps.len + l.counter)
    × (length l.steps.items.now ≡ length l.initial.steps.items.now)
    × SameFrom l.steps.len l.initial.steps.items.now l.steps.items.now
