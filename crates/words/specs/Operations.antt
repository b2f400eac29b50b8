-- Words that name operations.
use Rattle.std.specs.Prelude.{ℕ, List, [], ◌∷◌, Some, None, Ok, Err, Option, Result, find, bytes_eq, bit_or}
use Rattle.access.specs.Operations.{number_of, name_of, one}
use Rattle.access.specs.declared.operation.Operation.{Operation}
use Rattle.access.specs.declared.operation.Operation.TheVariants.{Read, Write, Append, Update, Execute, Become, Stat, Lock, Unlock, Signal, Send, Receive}
use Rattle.access.specs.declared.operation_set.OperationSet.{OperationSet}
use Rattle.access.specs.declared.refusal.Refusal.TheVariants.{UnfitWord}
use Rattle.words.specs.Words.{WordAt}
use Rattle.words.specs.Flaws.{at_word}
use Rattle.words.specs.declared.flaw.Flaw.{Flaw}

-- each operation once
abbrev pub operations : List Operation
operations = Read ∷ Write ∷ Append ∷ Update ∷ Execute ∷ Become ∷ Stat ∷ Lock ∷ Unlock ∷ Signal ∷ Send ∷ Receive ∷ []

-- the operation of a name
abbrev pub operation_named : List ℕ → Option Operation
operation_named w = find (λ o. bytes_eq (name_of o) w) operations

-- a set with the operations that words name
abbrev pub operations_onto : ℕ → List WordAt → Result OperationSet Flaw
operations_onto set [] = Ok (record { bits = set })
operations_onto set (w ∷ ws) = elim (operation_named w.bytes) [ None ↦ Err (at_word w UnfitWord) | Some o ↦ operations_onto (bit_or set (one (number_of o))) ws ]

-- the set of the operations that words name
abbrev pub operations_in : List WordAt → Result OperationSet Flaw
operations_in ws = operations_onto 0 ws
