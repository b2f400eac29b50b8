-- Walks by their nodes, and which of two comes first.
use Rattle.std.specs.Prelude.{◌≡◌, ℕ, ◌<◌, true, ◌⊎◌, List, [], ◌∷◌, length}
use Rattle.search.specs.Problem.{Problem}

-- the nodes of a walk from some source to b, the last one in front
pub data Trail (p : Problem) : ℕ → List ℕ → Type 0 where
  begin : {a : ℕ} → a < p.nodes → p.source a ≡ true → Trail p a (a ∷ [])
  onward : {b c : ℕ} {vs : List ℕ} → Trail p b vs → c < p.nodes → p.edge b c ≡ true → Trail p c (c ∷ vs)

-- of two walks with as many nodes the one comes before the other: where they part, nearest to their sources, it has the lower node
abbrev pub Before : List ℕ → List ℕ → Type 0
Before [] ws = ⊥
Before (v ∷ vs) [] = ⊥
Before (v ∷ vs) (w ∷ ws) = Before vs ws ⊎ ((vs ≡ ws) × (v < w))

-- they are one, or the one comes before the other
abbrev pub NotAfter : List ℕ → List ℕ → Type 0
NotAfter vs ws = (vs ≡ ws) ⊎ Before vs ws

-- none of the walks with as many nodes that lead from a source to a target comes before this one
abbrev pub Foremost : Problem → List ℕ → Type 0
Foremost p vs = (b : ℕ) (ws : List ℕ) → p.target b ≡ true → Trail p b ws → length ws ≡ length vs → NotAfter vs ws
