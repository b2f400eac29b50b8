-- How the records are laid out in chains.
use Rattle.std.specs.Prelude.{◌≡◌, ℕ, ◌+◌, ◌<◌, ◌≤◌, cond, ◌⊎◌, List, [], ◌∷◌, length, ◌==◌, ◌≢◌}
use Rattle.access.specs.Policy.{Matrix}
use Rattle.access.specs.Sound.{pairs}
use Rattle.record_table.specs.declared.chains.Record.{Record}

-- a number is not in a list
abbrev pub Out : ℕ → List ℕ → Type 0
Out x [] = Unit {0}
Out x (y ∷ ys) = (y ≢ x) × Out x ys

-- a number is in a list
abbrev pub In : ℕ → List ℕ → Type 0
In x [] = ⊥
In x (y ∷ ys) = (x ≡ y) ⊎ In x ys

-- from a chain's first number the links lead along this list, to none; each record of it is the chain's own, and comes once
abbrev pub Linked : (ℕ → Record) → (ℕ → ℕ) → ℕ → ℕ → List ℕ → Type 0
Linked mem owner c first [] = first ≡ 0
Linked mem owner c first (x ∷ xs) =
    (first ≡ x) × (1 ≤ x) × (x ≤ 1024) × (owner x ≡ c) × Out x xs × Linked mem owner c (mem x).next xs

-- the operations of the first record of the list with this target
abbrev pub look : (ℕ → Record) → ℕ → List ℕ → ℕ
look mem t [] = 0
look mem t (x ∷ xs) = cond ((mem x).target == t) (mem x).operations.bits (look mem t xs)

-- a record in use has a context as its target, and a set of known operations that is not empty
abbrev pub Fit : ℕ → Record → Type 0
Fit n r = (1 ≤ r.target) × (r.target ≤ n) × (1 ≤ r.operations.bits) × (r.operations.bits < 4096)

-- the records of a context's chain are in use, and no two have one target
abbrev pub Tidy : ℕ → (ℕ → Record) → List ℕ → Type 0
Tidy n mem [] = Unit {0}
Tidy n mem (x ∷ xs) = Fit n (mem x) × (look mem (mem x).target xs ≡ 0) × Tidy n mem xs

-- what the chains of the contexts hold
abbrev pub held_by : (ℕ → Record) → (ℕ → List ℕ) → Matrix
held_by mem chains s t = look mem t (chains s)

-- chain 0 has the unused records, and chain s those of context s
pub record Laid (n : ℕ) (first : ℕ → ℕ) (mem : ℕ → Record) : Type 0 where
  pub chains : ℕ → List ℕ
  -- the chain of a record
  pub owner : ℕ → ℕ
  pub linked : (c : ℕ) → c ≤ n → Linked mem owner c (first c) (chains c)
  pub tidy : (c : ℕ) → 1 ≤ c → c ≤ n → Tidy n mem (chains c)
  -- every record is in its owner's chain; by `linked` it is in no other
  pub whole : (x : ℕ) → 1 ≤ x → x ≤ 1024 → (owner x ≤ n) × In x (chains (owner x))
  -- each record is unused, or has a pair of its own
  pub counted : pairs (held_by mem chains) n n + length (chains 0) ≡ 1024
