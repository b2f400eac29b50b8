-- What bounds the operations that grants give.
use Rattle.std.specs.Prelude.{◌≡◌, ℕ, Bool, true, cond, T, [], ◌∷◌, Some, None, Option, bit_or}
use Rattle.access.specs.Operations.{has}
use Rattle.access.specs.Contexts.{inside}
use Rattle.access.specs.declared.operation_set.OperationSet.{OperationSet}
use Rattle.verdicts.specs.Runs.{Grant as Granting, Grants}
use Rattle.judge.specs.Grants.{meant}
use Rattle.judge.specs.Contextual.{value_of}
use Rattle.judge.specs.declared.by_context.ByContext.{ByContext}
use Rattle.judge.specs.declared.grant.Grant.{Grant}

-- the operations of a grant that passes a test
abbrev pub operations_if : (Granting → Bool) → Granting → ℕ
operations_if test g = cond (test g) g.operations 0

-- the operations of all grants that pass a test
abbrev pub offered : (Granting → Bool) → Grants → ℕ
offered test [] = 0
offered test (j ∷ gs) = bit_or (operations_if test j.1) (offered test gs)

-- the operations of an entry's grant, if there is one and it passes
abbrev pub offered_by : (Granting → Bool) → Option Grant → ℕ
offered_by test None = 0
offered_by test (Some g) = operations_if test (meant g)

-- a set holds all operations of another
abbrev pub Holds : ℕ → ℕ → Type 0
Holds all some = (o : ℕ) → T (has some o) → T (has all o)

-- the operations that are kept for each context from 1 to n
abbrev pub KeptOf : ℕ → (ℕ → ℕ) → ByContext OperationSet → Type 0
KeptOf n sets kept = (c : ℕ) → inside n c ≡ true → (value_of kept c).bits ≡ sets c
