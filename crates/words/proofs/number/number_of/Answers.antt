use Rattle.std.proofs.Common.{sym}
use Rattle.words.proofs.Worth.{worth_too_much}
use Rattle.words.proofs.number.number_of.Goals as goal

pub returns-then-value-gt999 : goal.returns-then-value-gt999
returns-then-value-gt999 c = sym (worth_too_much _ c.loop-byte.value _ c.loop-byte-test.true c.loop-byte.invariant.worth (rw c.from.ensures at c.if-value-gt999.true))
