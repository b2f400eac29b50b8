-- Push, pull and flow as one kind of thing: going from context to context in phases, of which the number never falls.
use Rattle.std.specs.Prelude.{ℕ, zero, suc}
use Rattle.verdicts.specs.Activities.{Move, transition, transfer}

-- how many phases a kind of activity has, and the move by which it goes on from one context to another in a phase
pub record Search : Type 0 where
  pub phases : ℕ
  pub move : ℕ → ℕ → ℕ → Move

-- in a push: first transitions, then transfers forward
abbrev pub pushing_move : ℕ → ℕ → ℕ → Move
pushing_move zero c d = transition c d
pushing_move (suc p) c d = transfer c d

-- in a pull: first transitions, then transfers in which the later context gives to the earlier one
abbrev pub pulling_move : ℕ → ℕ → ℕ → Move
pulling_move zero c d = transition c d
pulling_move (suc p) c d = transfer d c

-- how pushes go
abbrev pub pushing : Search
pushing = record { phases = 2; move = pushing_move }

-- how pulls go
abbrev pub pulling : Search
pulling = record { phases = 2; move = pulling_move }

-- how flows go
abbrev pub flowing : Search
flowing = record { phases = 1; move = λ p c d. transfer d c }
