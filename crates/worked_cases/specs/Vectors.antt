-- Small policies written out: contexts, levels and vectors, as one would write them down.
use Rattle.std.specs.Prelude.{ℕ, Bool, false, cond, ◌&&◌, ◌||◌, List, [], ◌∷◌, ◌==◌, bit_or}
use Rattle.access.specs.Operations.{number_of, one}
use Rattle.access.specs.declared.operation.Operation.{Operation}
use Rattle.access.specs.Policy.{Matrix, Meaning, with_written}
use Rattle.layers.specs.Layers.{with_levels, with_owners}
use Rattle.record_table.specs.TableMeaning.{empty_table}
use Rattle.verdicts.specs.Verdicts.{Step}

-- a set of contexts, by its members
abbrev pub one_of : List ℕ → ℕ → Bool
one_of [] c = false
one_of (x ∷ xs) c = c == x || one_of xs c

-- a subject, a target, and an operation that is written on them
abbrev pub Vector : Type 0
Vector = ℕ × ℕ × Operation

-- the written sets that some vectors make
abbrev pub vectors : List Vector → Matrix
vectors [] s t = 0
vectors (v ∷ vs) s t = bit_or (cond (s == v.0 && t == v.1) (one (number_of v.2)) 0) (vectors vs s t)

-- every context at level 0, or of owner 0
abbrev pub flat : ℕ → ℕ
flat c = 0

-- one context at level 1, the others at level 0
abbrev pub raised : ℕ → ℕ → ℕ
raised x c = cond (c == x) 1 0

-- a level layer over an owner layer, which constrains nothing, over a table of n contexts
abbrev pub piled : ℕ → (ℕ → ℕ) → List Vector → Meaning
piled n level vs = with_levels (with_owners (with_written (empty_table n) (vectors vs)) flat 0) level

-- a step: s does o on t, from origin k
abbrev pub step : ℕ → Operation → ℕ → ℕ → Step
step s o t k = record { interaction = record { subject = s; target = t; operation = number_of o }; origin = k }
