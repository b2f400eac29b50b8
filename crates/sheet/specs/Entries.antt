-- Entries by number, and a table of them.
use Rattle.std.specs.Prelude.{ℕ, zero, suc, ◌-◌, cond, List, [], ◌∷◌, None, Option, ◌==◌, slice_index_or}
use Rattle.access.specs.Contexts.{inside}

-- under each number an entry or none
abbrev pub Entries : Type 0 → Type 0
Entries E = ℕ → Option E

-- the entry under one number replaced
abbrev pub put : {E : Type 0} → Entries E → ℕ → Option E → Entries E
put f k e j = cond (j == k) e (f j)

-- the same where the number is in range, and nothing replaced where it is not
abbrev pub put_within : {E : Type 0} → ℕ → Entries E → ℕ → Option E → Entries E
put_within most f k e = cond (inside most k) (put f k e) f

-- the entries that a list holds, the first under 1
abbrev pub listed : {E : Type 0} → ℕ → List (Option E) → Entries E
listed most es k = cond (inside most k) (slice_index_or es (k - 1) None) None

-- the entries under the n numbers above k, in their order
abbrev pub in_order : {E : Type 0} → Entries E → ℕ → ℕ → List (Option E)
in_order f k zero = []
in_order f k (suc n) = f (suc k) ∷ in_order f (suc k) n
