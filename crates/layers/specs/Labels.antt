-- The label of a context.
use Rattle.std.specs.Prelude.{ℕ, ◌-◌, cond, slice_index}
use Rattle.access.specs.Contexts.{inside}
use Rattle.layers.specs.declared.labels.Labels.{Labels}

abbrev pub label_of : Labels → ℕ → ℕ
label_of labels c = cond (inside 256 c) (slice_index labels.numbers (c - 1)) 0
