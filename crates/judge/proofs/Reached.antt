-- The nodes of the graph of an activity, and a way along its edges.
use Rattle.std.proofs.Common.{◌≡◌, ℕ, zero, suc, ◌-◌, ◌*◌, ◌%◌, ◌<◌, ◌≤◌, Bool, true, T, leb, List, sym, subst, mul_comm, arith}
use Rattle.std.proofs.lemmas.Nat.{div_below, div-mul-add, mod-mul-add, mul-add-lt}
use Rattle.std.proofs.lemmas.Bool.{and_parts, leb-true}
use Rattle.access.specs.Policy.{Meaning}
use Rattle.access.specs.Sound.{Sound}
use Rattle.verdicts.specs.Runs.{Grants}
use Rattle.verdicts.specs.Activities.{Move}
use Rattle.verdicts.specs.Possible.{makeable}
use Rattle.verdicts.specs.Searches.{Search}
use Rattle.verdicts.specs.Verdicts.{AtLeast}
use Rattle.verdicts.proofs.Walks.{Walk, stop, go}
use Rattle.judge.specs.Kinds.{KindLaws}
use Rattle.judge.specs.Nodes.{node, phase, context, edge}
use Rattle.judge.specs.Found.{Leads, Shortest}
use Rattle.judge.proofs.Inside.{walk_activity}

-- a node's phase and context
pub phase_node : (n q c : ℕ) → 1 ≤ c → c ≤ n → phase n (node n q c) ≡ q
phase_node n q c a b = div-mul-add q n (c - 1) (omega arith)

pub context_node : (n q c : ℕ) → 1 ≤ c → c ≤ n → context n (node n q c) ≡ c
context_node n q c a b = let e : node n q c % n ≡ c - 1 = mod-mul-add q n (c - 1) (omega arith) in omega arith

pub node_below : (n q c phases : ℕ) → 1 ≤ c → c ≤ n → q < phases → node n q c < phases * n
node_below n q c phases a b f = subst (λ x. node n q c < x) (mul_comm n phases) (mul-add-lt q n (c - 1) phases f (omega arith))

module _ (m : Meaning) (gs : Grants) (l : Sound m) {kind : Search} {back : Bool} {activities : ℕ → ℕ → List Move → Type 0} (laws : KindLaws kind back activities) (A B : ℕ → Bool) where
  abbrev n : ℕ
  n = m.contexts

  -- a way along edges is an activity
  path_walk : (k : ℕ) (way : ℕ → ℕ) (p : ℕ) → p ≤ phase m.contexts (way 0) → ((d : ℕ) → d ≤ k → way d < kind.phases * m.contexts) → ((d : ℕ) → d < k → edge kind m gs (way d) (way (suc d)) ≡ true) → Walk kind (makeable m gs) (λ x. true) p (context m.contexts (way 0)) (context m.contexts (way k)) k
  path_walk zero way p h below joins = stop tt
  path_walk (suc k) way p h below joins =
      let e = and_parts (leb (phase n (way 0)) (phase n (way 1))) _ (joins 0 (omega arith)) in
      let r : phase n (way 0) ≤ phase n (way 1) = leb-true _ _ e.0 in
      go (phase n (way 1)) (context n (way 0)) (omega arith) (div_below (way 1) n kind.phases l.a_context (below 1 (omega arith))) tt (subst T (sym e.1) tt)
      (path_walk k (λ d. way (suc d)) (phase n (way 1)) (omega arith) (λ d b. below (suc d) (omega arith)) (λ d b. joins (suc d) (omega arith)))

  pub path_shortest : (k : ℕ) (way : ℕ → ℕ) → ((d : ℕ) → d ≤ k → way d < kind.phases * m.contexts) → ((d : ℕ) → d < k → edge kind m gs (way d) (way (suc d)) ≡ true) → T (A (context m.contexts (way 0))) → T (B (context m.contexts (way k))) → AtLeast m gs (Leads activities A B) k → Shortest m gs (Leads activities A B) k
  path_shortest k way below joins begins ends least =
      let r = walk_activity m gs l laws _ _ k (path_walk k way 0 (omega arith) below joins) in
      record { moves = r.moves; sought = record { from = context n (way 0); to = context n (way k); from_in = begins; to_in = ends; holds = r.activity }; realises = r.realises; count = r.count; shortest = least }
