-- Whether an entry stands under a number, and why a call on that number is refused.
use Rattle.std.specs.Prelude.{ℕ, not, cond, [], ◌∷◌, is_some, Err, Option, Result}
use Rattle.std.specs.Option.{ok_or}
use Rattle.access.specs.Contexts.{inside}
use Rattle.access.specs.Refusals.{first_of}
use Rattle.access.specs.declared.refusal.Refusal.{Refusal}
use Rattle.access.specs.declared.refusal.Refusal.TheVariants.{NumberOutside, StandsAlready, StandsNot}
use Rattle.sheet.specs.Entries.{Entries}

-- the entry under a number from 1 to most, or why there is none
abbrev pub entry_at : {E : Type 0} → ℕ → Entries E → ℕ → Result E Refusal
entry_at most f k = cond (inside most k) (ok_or (f k) StandsNot) (Err NumberOutside)

-- why a number cannot be entered: the first of the list that applies
abbrev pub entering_refusal : {E : Type 0} → ℕ → Entries E → ℕ → Option Refusal
entering_refusal most f k = first_of ((not (inside most k), NumberOutside) ∷ (is_some (f k), StandsAlready) ∷ [])

-- why a number cannot be struck: the first of the list that applies
abbrev pub striking_refusal : {E : Type 0} → ℕ → Entries E → ℕ → Option Refusal
striking_refusal most f k = first_of ((not (inside most k), NumberOutside) ∷ (not (is_some (f k)), StandsNot) ∷ [])
