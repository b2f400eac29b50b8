use Rattle.std.proofs.Common.{arith, lt_of_lt_of_le, pow_mono}
use Rattle.access.proofs.ContextLaws.{low_none, none_from, lowest_told_from}
use Rattle.access.proofs.context_set.lowest_from.Goals as goal

pub returns-then-k-ge64 : goal.returns-then-k-ge64
returns-then-k-ge64 c = low_none c.args.word c.args.k (lt_of_lt_of_le c.ranges.word.fits (pow_mono c.if-k-ge64.true))

pub returns-then-rest-eq0 : goal.returns-then-rest-eq0
returns-then-rest-eq0 c = none_from c.args.word c.args.k c.if-rest-eq0.true

pub returns-else-rest-eq0 : goal.returns-else-rest-eq0
returns-else-rest-eq0 c = lowest_told_from c.args.word c.args.k (omega arith) c.if-rest-eq0.false
