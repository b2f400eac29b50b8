-- Graphs whose nodes are contexts at phases.
use Rattle.std.specs.Prelude.{◌≡◌, ℕ, ◌<◌, ◌≤◌, true}
use Rattle.search.specs.Problem.{Problem}

-- nodes are n contexts at phases: phases do not fall along an edge, and what may follow a context may follow it at an earlier phase
pub record Phased (p : Problem) (n : ℕ) : Type 0 where
  pub context : ℕ → ℕ
  pub phase : ℕ → ℕ
  pub few : (v : ℕ) → v < p.nodes → context v < n
  pub forward : (u v : ℕ) → u < p.nodes → v < p.nodes → p.edge u v ≡ true → phase u ≤ phase v
  pub edges : (u v w : ℕ) → u < p.nodes → v < p.nodes → w < p.nodes → context u ≡ context v → phase u ≤ phase v → p.edge v w ≡ true → p.edge u w ≡ true
  pub targets : (u v : ℕ) → u < p.nodes → v < p.nodes → context u ≡ context v → phase u ≤ phase v → p.target v ≡ true → p.target u ≡ true
