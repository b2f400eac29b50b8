use Rattle.std.proofs.Common.{arith}
use Rattle.sheet.specs.Shown.{shown}
use Rattle.report.proofs.Parts.{next_ranged, none_yet, one_more, all_written}
use Rattle.report.proofs.job.write_parts.Goals as goal

pub loop-number-init : goal.loop-number-init
loop-number-init g c = none_yet _ _ _

pub write_part-requires-clause-property : goal.write_part-requires-clause-property
write_part-requires-clause-property g c =
    let b = shown c.args.judging.now.sheet.now in
    let next = c.in-Some.ensures in
    (next_ranged b c.loop-number.after c.in-Some.number next, next.stands)

pub loop-number-smaller : goal.loop-number-smaller
loop-number-smaller g c =
    let next = c.in-Some.ensures in
    let low = next.above in let high = next.ranged in omega arith

pub loop-number-preserved : goal.loop-number-preserved
loop-number-preserved g c =
    let b = shown c.args.judging.now.sheet.now in
    let part = c.in_ok-write_part.ensures in
    one_more b c.args.names.now _ _ _ c.loop-number.after c.in-Some.number c.loop-number.invariant (c.in-Some.ensures) part.0 part.1 part.2

pub returns : goal.returns
returns g c =
    let b = shown c.args.judging.now.sheet.now in
    all_written b c.args.names.now _ _ c.loop-number.after c.loop-number.invariant (c.in_default.ensures)
