use Rattle.std.proofs.Common.{◌≡◌, ◌+◌, ◌≤◌, length}
use Rattle.words.specs.Parts.{parts}
use Rattle.policy_text.specs.Reading.{Reading, nothing}
use Rattle.policy_text.specs.Texts.{lines_read}
use Rattle.policy_text.specs.Shown.{Holds}
use Rattle.policy_text.proofs.read.read.Given as goal

abbrev pub invariant-loop-line : goal.invariant-loop-line
invariant-loop-line l = record {
  few : l.number + length l.rest ≤ 1 + length l.text;
  read : (p : Reading) × Holds p l.reader × (lines_read l.number p (parts 10 l.rest) ≡ lines_read 1 nothing (parts 10 l.text));
}

abbrev pub decreases-loop-line : goal.decreases-loop-line
decreases-loop-line l = length l.rest
