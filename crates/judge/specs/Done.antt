-- What contexts can do in some legal run, and the transfers that follow.
use Rattle.std.specs.Prelude.{ℕ, Bool, false, bit_and}
use Rattle.access.specs.Operations.{read_op, write_op}
use Rattle.access.specs.Policy.{Meaning}
use Rattle.access.specs.declared.context_set.ContextSet.{ContextSet}
use Rattle.verdicts.specs.Runs.{Grants}
use Rattle.verdicts.specs.Activities.{transition, transfer, contact}
use Rattle.verdicts.specs.Possible.{possible, makeable, some_op}
use Rattle.judge.specs.Contextual.{IsSetOf, IsTable}
use Rattle.judge.specs.declared.by_context.ByContext.{ByContext}
use Rattle.judge.specs.declared.doings.Doings.{Doings}

-- the operations that the policy alone, grants left aside, allows on a pair
abbrev pub allowed : Meaning → ℕ → ℕ → ℕ
allowed m s t = bit_and (m.written s t) (m.permitted s t)

-- whether the policy alone lets s read t
abbrev pub reads_alone : Meaning → ℕ → ℕ → Bool
reads_alone m s t = some_op read_op (allowed m s t)

-- no context is in a set
abbrev pub IsEmpty : ContextSet → Type 0
IsEmpty = IsSetOf (λ _. false)

-- nothing can be done
abbrev pub IsNothing : Doings → Type 0
IsNothing d = IsEmpty d.becoming × IsEmpty d.writing × IsEmpty d.reading × IsEmpty d.reading_alone × IsEmpty d.doing

-- what a context can do: on which contexts
pub record DoneBy (m : Meaning) (gs : Grants) (s : ℕ) (d : Doings) : Type 0 where
  pub becoming : IsSetOf (λ t. makeable m gs (transition s t)) d.becoming
  pub writing : IsSetOf (λ t. some_op write_op (possible m gs s t)) d.writing
  pub reading : IsSetOf (λ t. some_op read_op (possible m gs s t)) d.reading
  pub reading_alone : IsSetOf (reads_alone m s) d.reading_alone
  pub doing : IsSetOf (λ t. makeable m gs (contact s t)) d.doing

-- the contexts to which each can give information
abbrev pub Given : Meaning → Grants → ByContext ContextSet → Type 0
Given m gs giving = IsTable (λ g k. makeable m gs (transfer g k)) giving

-- and those from which each can get it
abbrev pub Gotten : Meaning → Grants → ByContext ContextSet → Type 0
Gotten m gs getting = IsTable (λ k g. makeable m gs (transfer g k)) getting
