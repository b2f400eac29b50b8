use Rattle.std.proofs.Common.{◌≡◌}
use Rattle.words.specs.Left.{left}
use Rattle.words.specs.Operations.{operations_onto}
use Rattle.words.proofs.operation.operations.Given as goal

abbrev pub invariant-loop-word : goal.invariant-loop-word
invariant-loop-word l = operations_onto l.set.bits (left l.word-iterator) ≡ operations_onto 0 (left l.fn.words)
