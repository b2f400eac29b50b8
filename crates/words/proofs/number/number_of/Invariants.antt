use Rattle.std.proofs.Common.{◌≡◌, ◌≤◌, drop}
use Rattle.std.specs.List.{list_all}
use Rattle.words.specs.Shape.{digit}
use Rattle.words.specs.Numbers.{worth}
use Rattle.words.proofs.number.number_of.Given as goal

abbrev pub invariant-loop-byte : goal.invariant-loop-byte
invariant-loop-byte l = record {
  small : l.value ≤ 999;
  digits : list_all digit (drop l.byte-index l.word) ≡ list_all digit l.word;
  worth : worth l.value (drop l.byte-index l.word) ≡ worth 0 l.word;
}
