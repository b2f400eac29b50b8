use Rattle.std.proofs.Common.{◌≡◌, ◌-◌, drop}
use Rattle.std.specs.List.{position_from}
use Rattle.words.specs.Numbering.{same_word, number_of_name}
use Rattle.words.proofs.names.Names.find.Given as goal

-- the first that is the word among those not yet seen is the first of all
abbrev pub invariant-loop-context : goal.invariant-loop-context
invariant-loop-context l =
    position_from (λ name. same_word name l.word) l.context (drop (l.context - 1) l.self) ≡ number_of_name l.self l.word
