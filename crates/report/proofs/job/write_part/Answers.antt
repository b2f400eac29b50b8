use Rattle.std.proofs.Common.{length, take, sym}
use Rattle.std.proofs.lemmas.List.{length-take-le}
use Rattle.sheet.specs.Shown.{shown}
use Rattle.report.proofs.Parts.{is_reported, is_part, on_ok}
use Rattle.report.proofs.job.write_part.Goals as goal

pub unwrap-len-requires : goal.unwrap-len-requires
unwrap-len-requires g c =
    let told = c.report_property.ensures.answer in
    is_reported (shown c.args.judging.now.sheet.now) c.args.number c.args.names.now (length c.args.ticks.now) c.args.places.now c.report_property.new.places c.args.steps.now c.report_property.new.steps c.args.memory.now c.report_property.new.memory
    (g.met.P.Policy.sound c.args.judging.now.sheet.now.policy).few_contexts c.requires.lent c.requires.property.0 c.requires.property.1 c.report_property.result told

pub slice_bounds-write_all-end : goal.slice_bounds-write_all-end
slice_bounds-write_all-end g c =
    let told = c.report_property.ensures.answer in
    let e = c.unwrap-len.ensures in
    (is_part (shown c.args.judging.now.sheet.now) c.args.number c.args.names.now (length c.args.ticks.now) c.args.places.now c.report_property.new.places c.args.steps.now c.report_property.new.steps c.args.memory.now c.report_property.new.memory
    (g.met.P.Policy.sound c.args.judging.now.sheet.now.policy).few_contexts c.requires.lent c.requires.property.0 c.requires.property.1 c.unwrap-len.result (rw e at told)).0

pub slice_bounds-write_all-end-2 : goal.slice_bounds-write_all-end-2
slice_bounds-write_all-end-2 g c = sym (length-take-le _ _ (slice_bounds-write_all-end g c))

pub returns : goal.returns
returns g c =
    let told = c.report_property.ensures.answer in
    let e = c.unwrap-len.ensures in
    let part = (is_part (shown c.args.judging.now.sheet.now) c.args.number c.args.names.now (length c.args.ticks.now) c.args.places.now c.report_property.new.places c.args.steps.now c.report_property.new.steps c.args.memory.now c.report_property.new.memory
    (g.met.P.Policy.sound c.args.judging.now.sheet.now.policy).few_contexts c.requires.lent c.requires.property.0 c.requires.property.1 c.unwrap-len.result (rw e at told)).1 in
    on_ok c.write_all.result (λ written. (take c.unwrap-len.result c.report_property.new.memory, written, part)) c.write_all.ensures.bytes
