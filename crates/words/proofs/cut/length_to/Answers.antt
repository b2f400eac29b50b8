use Rattle.words.proofs.FirstPart.{length_to, length_to_within}
use Rattle.words.proofs.cut.length_to.Goals as goal

pub returns : goal.returns
returns c = record {
  place = rw (c.unwrap_or.ensures, c.place_of.ensures) (length_to c.args.mark c.args.bytes.now);
  within = rw (c.unwrap_or.ensures, c.place_of.ensures) (length_to_within c.args.mark c.args.bytes.now);
}
