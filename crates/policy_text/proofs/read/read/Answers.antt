use Rattle.std.proofs.Common.{Err, sym, ap, ◌∙◌, arith}
use Rattle.policy_text.specs.Texts.{lines_read}
use Rattle.policy_text.proofs.Reading.{short_text, line_taken, line_flawed}
use Rattle.policy_text.proofs.read.read.Goals as goal

pub returns-in-Err : goal.returns-in-Err
returns-in-Err c =
    let so_far = c.loop-line.invariant.read in
    let n = c.loop-line.number in
    let flawed = line_flawed n so_far.0 c.in-Some.line.now c.in-Some.behind.now c.take.new.self c.in-Err.flaw (c.in-Err.ensures so_far.0 so_far.1) in
    rw (short_text c.args.text.now c.if-text-gt-MOST_BYTES.false ∙ sym so_far.2 ∙ ap (lines_read n so_far.0) c.in-Some.ensures.parts ∙ flawed) (ap Err c.on.ensures)

pub loop-line-preserved : goal.loop-line-preserved
loop-line-preserved c =
    let so_far = c.loop-line.invariant.read in
    let n = c.loop-line.number in
    let taken = line_taken n so_far.0 c.in-Some.line.now c.in-Some.behind.now c.take.new.self (c.in_default-take.ensures so_far.0 so_far.1) in
    record {
      few = omega (arith, c.in-Some.ensures.shorter);
      read = (taken.0, taken.1, sym taken.2 ∙ sym (ap (lines_read n so_far.0) c.in-Some.ensures.parts) ∙ so_far.2);
    }
