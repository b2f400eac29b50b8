-- What entering a property meets, told by sets and by the refusal's number.
use Rattle.std.specs.Prelude.{◌≡◌, ℕ, ◌==◌, Some, None, Option}
use Rattle.access.specs.Contexts.{member}
use Rattle.access.specs.Refusals.{refusal_number}
use Rattle.access.specs.declared.context_set.ContextSet.{ContextSet}
use Rattle.access.specs.declared.refusal.Refusal.{Refusal}

-- a set has this context and no other
abbrev pub Only : ℕ → ContextSet → Type 0
Only c set = (d : ℕ) → member set d ≡ (d == c)

-- a call meets the refusal of this number
abbrev pub Meets : ℕ → Option Refusal → Type 0
Meets k None = ⊥
Meets k (Some why) = refusal_number why ≡ k
