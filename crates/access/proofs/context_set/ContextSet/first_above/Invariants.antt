use Rattle.access.proofs.ContextLaws.{NoneBefore}
use Rattle.access.proofs.context_set.ContextSet.first_above.Given as goal

abbrev pub invariant-loop-i : goal.invariant-loop-i
invariant-loop-i l = NoneBefore l.n l.self l.i
