use Rattle.std.proofs.lemmas.List.{take_rest}
use Rattle.words.proofs.FirstPart.{next_word, next_shorter}
use Rattle.words.proofs.word.WordsIterator.next.Goals as goal

pub returns-clause-steps : goal.returns-clause-steps
returns-clause-steps c = rw take_rest (next_word _ _ _ c.if-self.false (rw take_rest at c.length_to-length.ensures.place))

pub returns-clause-goes : goal.returns-clause-goes
returns-clause-goes c = record {
  on = λ _. (tt, tt, next_shorter _ _ _ c.if-self.false (rw take_rest at c.length_to-length.ensures.place));
  keeps = tt;
  rests = λ _. tt;
}
