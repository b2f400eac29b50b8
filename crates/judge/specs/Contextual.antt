-- Values for contexts.
use Rattle.std.specs.Prelude.{◌≡◌, ℕ, ◌-◌, Bool, cond, slice_index_or}
use Rattle.access.specs.Contexts.{inside, member}
use Rattle.access.specs.declared.context_set.ContextSet.{ContextSet}
use Rattle.judge.specs.declared.by_context.ByContext.{ByContext}

-- the value of a context, and the blank one of a number that is none
abbrev pub value_of : {A : Type 0} → ByContext A → ℕ → A
value_of v c = cond (inside 256 c) (slice_index_or v.kept (c - 1) v.blank) v.blank

-- a set has just the contexts that pass a test
abbrev pub IsSetOf : (ℕ → Bool) → ContextSet → Type 0
IsSetOf test set = (d : ℕ) → member set d ≡ test d

-- each context's set has just those that pass a test beside it
abbrev pub IsTable : (ℕ → ℕ → Bool) → ByContext ContextSet → Type 0
IsTable test table = (c : ℕ) → IsSetOf (test c) (value_of table c)
