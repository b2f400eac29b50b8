use Rattle.std.proofs.Common.{refl, arith}
use Rattle.judge.proofs.Kept.{blank_at}
use Rattle.judge.proofs.by_context.ByContext.of.Goals as goal

pub loop-index-init : goal.loop-index-init
loop-index-init g c = (refl, (λ i l. absurd (omega (arith, l))), λ i l. blank_at 256 i c.args.blank)
