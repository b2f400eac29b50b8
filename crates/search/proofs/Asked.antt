-- What is asked of a node is what the problem says of it.
use Rattle.std.proofs.Common.{◌≡◌, ℕ, ◌<◌, Bool, ◌&&◌, Some, ap}
use mathlib.Core.Path.{fun_ext}
use Rattle.std.proofs.lemmas.Bool.{lt-ltb}
use Rattle.search.specs.Problem.{Problem, of_node, leads}

module _ (p : Problem) (u : ℕ) (node : u < p.nodes) where
  pub of_node_is : (test : ℕ → Bool) → of_node p test u ≡ test u
  of_node_is test = ap (λ b. b && test u) (lt-ltb u p.nodes node)

  pub leads_on : leads p (Some u) ≡ p.edge u
  leads_on = fun_ext (λ v. of_node_is (λ w. p.edge w v))
