-- What holds of every policy's meaning.
use Rattle.std.specs.Prelude.{◌≡◌, ℕ, zero, suc, ◌+◌, ◌<◌, ◌≤◌, false}
use Rattle.access.specs.Contexts.{both_inside}
use Rattle.access.specs.Policy.{Matrix, Meaning}

-- 1 for a set that is not empty
abbrev pub some : ℕ → ℕ
some zero = 0
some (suc k) = 1

-- the targets from 1 to n on which s has a set that is not empty
unfoldable pub row : Matrix → ℕ → ℕ → ℕ
row w s zero = 0
row w s (suc t) = row w s t + some (w s (suc t))

-- the pairs of a subject from 1 to k and a target from 1 to n whose set is not empty
unfoldable pub pairs : Matrix → ℕ → ℕ → ℕ
pairs w zero n = 0
pairs w (suc s) n = pairs w s n + row w (suc s) n

-- how many pairs have a written set that is not empty
abbrev pub filled : Meaning → ℕ
filled m = pairs m.written m.contexts m.contexts

pub record Sound (m : Meaning) : Type 0 where
  pub a_context : 1 ≤ m.contexts
  pub few_contexts : m.contexts ≤ 256
  pub written_inside : (s t : ℕ) → both_inside m.contexts s t ≡ false → m.written s t ≡ 0
  pub permitted_inside : (s t : ℕ) → both_inside m.contexts s t ≡ false → m.permitted s t ≡ 0
  pub written_known : (s t : ℕ) → m.written s t < 4096
  pub permitted_known : (s t : ℕ) → m.permitted s t < 4096
  pub room : filled m ≤ m.capacity
