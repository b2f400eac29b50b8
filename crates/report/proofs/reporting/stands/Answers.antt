use Rattle.std.proofs.Common.{arith}
use Rattle.report.proofs.reporting.stands.Goals as goal

pub returns-in-ShortMemory : goal.returns-in-ShortMemory
returns-in-ShortMemory g c = grind (arith, c.refusal_without_memory.ensures.answer 0 0, c.in-ShortMemory.is)

pub returns-in_default : goal.returns-in_default
returns-in_default g c = grind (arith, c.refusal_without_memory.ensures.answer 0 0, c.in_default.not-ShortMemory)
