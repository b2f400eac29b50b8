use Rattle.std.proofs.lemmas.List.{take_rest}
use Rattle.words.proofs.FirstPart.{one_part, first_part}
use Rattle.words.proofs.cut.cut.Goals as goal

pub returns-then-end-bytes-clause-parts : goal.returns-then-end-bytes-clause-parts
returns-then-end-bytes-clause-parts c = rw take_rest (first_part _ _ _ c.length_to-end.ensures.place c.if-end-bytes.true)

pub returns-else-end-bytes-clause-parts : goal.returns-else-end-bytes-clause-parts
returns-else-end-bytes-clause-parts c = one_part _ _ _ c.length_to-end.ensures.place c.if-end-bytes.false
