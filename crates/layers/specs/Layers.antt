-- What the layers leave of the permitted sets below them.
use Rattle.std.specs.Prelude.{ℕ, Bool, cond, ◌||◌, ◌==◌, nat_le}
use Rattle.access.specs.Operations.{without, set_of, read_op, write_op, execute_op}
use Rattle.access.specs.Policy.{Meaning, with_permitted}

-- a meaning with what a rule leaves of each permitted set: a rule takes a subject, a target and a set
abbrev pub with_rule : Meaning → (ℕ → ℕ → ℕ → ℕ) → Meaning
with_rule m rule = with_permitted m (λ s t. rule s t (m.permitted s t))

-- a set less the operations of `barred`, unless a test passes
abbrev pub unless : Bool → ℕ → ℕ → ℕ
unless test barred set = without set (cond test 0 barred)

-- the level rule: a subject reads no lower level, and neither writes to a higher level nor executes there
abbrev pub level_rule : (ℕ → ℕ) → ℕ → ℕ → ℕ → ℕ
level_rule level s t set =
    unless (nat_le (level t) (level s)) (set_of (λ o. write_op o || execute_op o) 12)
    (unless (nat_le (level s) (level t)) (set_of read_op 12) set)

-- the owner rule: the operations of `constrained` only between contexts of one owner
abbrev pub owner_rule : (ℕ → ℕ) → ℕ → ℕ → ℕ → ℕ → ℕ
owner_rule owner constrained s t set = unless (owner s == owner t) constrained set

abbrev pub with_levels : Meaning → (ℕ → ℕ) → Meaning
with_levels m level = with_rule m (level_rule level)

abbrev pub with_owners : Meaning → (ℕ → ℕ) → ℕ → Meaning
with_owners m owner constrained = with_rule m (owner_rule owner constrained)
