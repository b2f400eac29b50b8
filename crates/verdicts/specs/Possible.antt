-- What is possible, reckoned from the sets alone. That this is what legal runs can do is a law (Laws).
use Rattle.std.specs.Prelude.{ℕ, zero, suc, Bool, false, cond, not, ◌&&◌, ◌||◌, T, [], ◌∷◌, ◌==◌, bit_and, bit_or}
use Rattle.access.specs.Operations.{has, read_op, write_op, become_op}
use Rattle.access.specs.Policy.{Meaning, Interaction, holds}
use Rattle.verdicts.specs.Runs.{Grant, Grants}
use Rattle.verdicts.specs.Activities.{Move, transition, transfer, contact}

-- what one grant gives on a pair
abbrev pub grant_set : Grant → ℕ → ℕ → ℕ
grant_set g s t = cond (g.subjects s && g.targets t) g.operations 0

-- what all standing grants give on a pair
abbrev pub granted : Grants → ℕ → ℕ → ℕ
granted [] s t = 0
granted (j ∷ gs) s t = bit_or (grant_set j.1 s t) (granted gs s t)

-- the operations that s can do on t in some legal run: permitted, and written or granted
abbrev pub possible : Meaning → Grants → ℕ → ℕ → ℕ
possible m gs s t = bit_and (m.permitted s t) (bit_or (m.written s t) (granted gs s t))

-- an interaction's operation is possible
abbrev pub Can : Meaning → Grants → Interaction → Type 0
Can m gs i = T (holds (possible m gs) i)

-- some number below k passes a test
abbrev pub any_below : (ℕ → Bool) → ℕ → Bool
any_below test zero = false
any_below test (suc k) = test k || any_below test k

-- some operation of a set passes a test
abbrev pub some_op : (ℕ → Bool) → ℕ → Bool
some_op test set = any_below (λ o. test o && has set o) 12

-- some possible operation makes a move
abbrev pub makeable : Meaning → Grants → Move → Bool
makeable m gs (transition c d) = some_op become_op (possible m gs c d)
makeable m gs (transfer g k) = some_op write_op (possible m gs g k) || some_op read_op (possible m gs k g)
makeable m gs (contact s t) = not (possible m gs s t == 0)

-- a move can be made
abbrev pub CanMake : Meaning → Grants → Move → Type 0
CanMake m gs v = T (makeable m gs v)
