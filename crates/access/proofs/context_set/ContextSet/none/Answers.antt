use Rattle.std.proofs.Common.{◌-◌, ◌/◌, ◌%◌, ap, ◌∙◌, arith}
use Rattle.std.proofs.lemmas.List.{get_or-replicate}
use Rattle.access.specs.Operations.{has}
use Rattle.access.proofs.Bits.{has_none}
use Rattle.access.proofs.ContextLaws.{member_no}
use Rattle.access.proofs.context_set.ContextSet.none.Goals as goal

pub returns : goal.returns
returns c = λ d. member_no _ d (λ h l. ap (λ n. has n ((d - 1) % 64)) (get_or-replicate 4 ((d - 1) / 64) 0 0 (omega arith)) ∙ has_none ((d - 1) % 64))
