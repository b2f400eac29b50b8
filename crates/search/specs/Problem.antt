-- Graphs on the numbers below `nodes`, and their walks.
use Rattle.std.specs.Prelude.{◌≡◌, ℕ, suc, ◌<◌, ◌≤◌, Bool, true, false, not, ◌&&◌, Option, Some, None, MatchOption, nat_lt}

-- a graph, with the nodes where a walk may begin and those where it should end
pub record Problem : Type 0 where
  pub nodes : ℕ
  pub edge : ℕ → ℕ → Bool
  pub source : ℕ → Bool
  pub target : ℕ → Bool

-- v is the first number from `start` on, below `end`, that passes a test
pub record FirstAt (test : ℕ → Bool) (start end v : ℕ) : Type 0 where
  pub from : start ≤ v
  pub below : v < end
  pub passes : test v ≡ true
  pub before : (u : ℕ) → start ≤ u → u < v → test u ≡ false

-- the first number from `start` on, below `end`, that passes a test, or none where none does
abbrev pub First : (ℕ → Bool) → ℕ → ℕ → Option ℕ → Type 0
First test start end r = MatchOption r ((v : ℕ) → start ≤ v → v < end → test v ≡ false) (λ v. FirstAt test start end v)

-- a test of what is not in a set
abbrev pub outside : (ℕ → Bool) → (ℕ → Bool) → ℕ → Bool
outside set test v = test v && not (set v)

-- what a test says of a node; it says nothing of a number that is none
abbrev pub of_node : Problem → (ℕ → Bool) → ℕ → Bool
of_node p test v = nat_lt v p.nodes && test v

-- whether an edge leads from a node to v, or whether v is a source where no node is given
abbrev pub leads : Problem → Option ℕ → ℕ → Bool
leads p None v = p.source v
leads p (Some u) v = of_node p (λ w. p.edge w v) u

-- a walk of k edges from a to b
pub data Walk (p : Problem) (a : ℕ) : ℕ → ℕ → Type 0 where
  stay : a < p.nodes → Walk p a a 0
  step : {b c k : ℕ} → Walk p a b k → c < p.nodes → p.edge b c ≡ true → Walk p a c (suc k)

-- a walk of k edges from some source to b
pub record Way (p : Problem) (b k : ℕ) : Type 0 where
  pub start : ℕ
  pub begins : p.source start ≡ true
  pub walk : Walk p start b k

-- no walk of any length leads from a source to a target
abbrev pub Nowhere : Problem → Type 0
Nowhere p = (b k : ℕ) → p.target b ≡ true → Way p b k → ⊥

-- every walk from a source to a target has at least d edges
abbrev pub Least : Problem → ℕ → Type 0
Least p d = (b k : ℕ) → p.target b ≡ true → Way p b k → d ≤ k

-- a shortest walk from a source to a target has fewer than m edges
abbrev pub Short : Problem → ℕ → Type 0
Short p m = (b k : ℕ) → p.target b ≡ true → Way p b k → Least p k → k < m
