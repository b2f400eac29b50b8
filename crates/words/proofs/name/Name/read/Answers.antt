use Rattle.std.proofs.Common.{sym}
use Rattle.words.proofs.Padding.{padded_is_kept}
use Rattle.words.proofs.name.Name.read.Goals as goal

pub invariant_of-result : goal.invariant_of-result
invariant_of-result c = rw c.copy_from_slice.ensures.after (padded_is_kept c.args.word.now (sym c.if-not-has_shape.ensures))
