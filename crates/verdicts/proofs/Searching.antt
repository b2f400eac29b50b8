-- One search serves integrity, confidentiality and consistency: what it reaches shows the verdict, and it needs no more
-- steps than there are contexts.
use Rattle.std.proofs.Common.{◌≡◌, ℕ, zero, suc, ◌+◌, ◌<◌, ◌≤◌, Bool, true, T, leb, ◌⊎◌, List, length, refl, subst, inl, inr, ⊎_elim, arith, le→leb, leb→le}
use Rattle.access.specs.Policy.{Meaning}
use Rattle.verdicts.specs.Runs.{Grants}
use Rattle.verdicts.specs.Activities.{Move, transition, transfer, Property, integrity, confidentiality, domain, consistency, ReadsDirectly, Forbids}
use Rattle.verdicts.specs.Possible.{makeable}
use Rattle.verdicts.specs.Searches.{Search, pushing, pulling, flowing}
use Rattle.verdicts.specs.Verdicts.{Realises, Step, Broken}
use Rattle.verdicts.proofs.Moves.{realised}
use Rattle.verdicts.proofs.Agreement.{shown_realised}
use Rattle.verdicts.proofs.Walks.{Walk, stop, go, size_most, shorten, push_walk, walk_push, pull_walk, walk_pull, flow_walk, walk_flow}
use Rattle.verdicts.proofs.Inside.{Inside, ends}

-- the search for a property, and between which contexts
abbrev pub kind_of : Property → Search
kind_of (integrity A B) = pushing
kind_of (confidentiality A B) = pulling
kind_of (consistency A B) = flowing
kind_of (domain A) = flowing

abbrev pub Sought : Meaning → Property → ℕ → ℕ → Type 0
Sought m (integrity A B) a b = T (A a) × T (B b)
Sought m (confidentiality A B) a b = T (A a) × T (B b)
Sought m (consistency A B) a b = T (A a) × T (B b) × (ReadsDirectly m a b → ⊥)
Sought m (domain A) a b = ⊥

abbrev pub Searched : Property → Type 0
Searched (integrity A B) = Unit {0}
Searched (confidentiality A B) = Unit {0}
Searched (consistency A B) = Unit {0}
Searched (domain A) = ⊥

module _ (m : Meaning) (gs : Grants) where
  abbrev Walks : Search → ℕ → ℕ → ℕ → Type 0
  Walks kind a b k = Walk kind (makeable m gs) (λ c. true) 0 a b k

  -- a walk between contexts that a property keeps apart
  pub record Found (p : Property) (k : ℕ) : Type 0 where
    pub from : ℕ
    pub to : ℕ
    pub sought : Sought m p from to
    pub walk : Walks (kind_of p) from to k

  pub found_from : (p : Property) → Searched p → (ms : List Move) → Forbids m p ms → Realises m gs ms → Found p (length ms)
  found_from (integrity A B) s ms f r = record { from = f.from; to = f.to; sought = (f.from_in, f.to_in); walk = push_walk (makeable m gs) f.from f.to ms f.holds ((realised m gs ms).0 r) }
  found_from (confidentiality A B) s ms f r = record { from = f.from; to = f.to; sought = (f.from_in, f.to_in); walk = pull_walk (makeable m gs) f.from f.to ms f.holds ((realised m gs ms).0 r) }
  found_from (consistency A B) s ms f r = record { from = f.from; to = f.to; sought = (f.from_in, f.to_in, f.holds.1); walk = flow_walk (makeable m gs) f.from f.to ms f.holds.0 ((realised m gs ms).0 r) }
  found_from (domain A) s ms f r = elim s [ ]

  -- a forbidden activity that is realised, by its number of moves
  pub record Breach (p : Property) (k : ℕ) : Type 0 where
    pub moves : List Move
    pub forbidden : Forbids m p moves
    pub realises : Realises m gs moves
    pub count : length moves ≡ k

  pub breach_from : (p : Property) (k : ℕ) → Found p k → Breach p k
  breach_from (integrity A B) k f =
      let r = walk_push (makeable m gs) f.from f.to k f.walk in
      record { moves = r.moves; forbidden = record { from = f.from; to = f.to; from_in = f.sought.0; to_in = f.sought.1; holds = r.activity }; realises = (realised m gs r.moves).1 r.every; count = r.count }
  breach_from (confidentiality A B) k f =
      let r = walk_pull (makeable m gs) f.from f.to k f.walk in
      record { moves = r.moves; forbidden = record { from = f.from; to = f.to; from_in = f.sought.0; to_in = f.sought.1; holds = r.activity }; realises = (realised m gs r.moves).1 r.every; count = r.count }
  breach_from (consistency A B) k f =
      let r = walk_flow (makeable m gs) f.from f.to k f.walk in
      record { moves = r.moves; forbidden = record { from = f.from; to = f.to; from_in = f.sought.0; to_in = f.sought.1; holds = (r.activity, f.sought.2) }; realises = (realised m gs r.moves).1 r.every; count = r.count }
  breach_from (domain A) k f = elim f.sought [ ]

  -- whatever is reached after k moves, one makeable move on, in the same phase or a later one, is reached after k + 1
  abbrev pub Spreads : Search → (ℕ → ℕ → ℕ → Type 0) → Type 0
  Spreads kind R = (k p c q d : ℕ) → R k p c → p ≤ q → q < kind.phases → T (makeable m gs (kind.move q c d)) → R (suc k) q d

  walk_spreads : (kind : Search) (R : ℕ → ℕ → ℕ → Type 0) → Spreads kind R → {ok : ℕ → Bool} {p c d j : ℕ} → Walk kind (makeable m gs) ok p c d j → (k : ℕ) → R k p c → (q : ℕ) × R (k + j) q d
  walk_spreads kind R sp {p = p} {d = d} (stop o) k r = let e : k ≡ k + 0 = omega arith in (p, subst (λ x. R x p d) e r)
  walk_spreads kind R sp {p = p} {d = d} (go {c = c} {k = j} q b l f o v w) k r =
      let x = walk_spreads kind R sp w (suc k) (sp k p b q c r l f v) in
      let e : suc k + j ≡ k + suc j = omega arith in
      (x.0, subst (λ y. R y x.0 d) e x.1)

  -- what holds of every source at the start, and spreads, holds at the end of each forbidden activity that is realised;
  -- R is by source, number of moves, phase and context
  module _ (p : Property) (searched : Searched p) (R : ℕ → ℕ → ℕ → ℕ → Type 0) (start : (a b : ℕ) → Sought m p a b → R a 0 0 a) (spreads : (a : ℕ) → Spreads (kind_of p) (R a)) where
    pub search_reach : (ms : List Move) → Forbids m p ms → Realises m gs ms → (a b : ℕ) × Sought m p a b × ((q : ℕ) × R a (length ms) q b)
    search_reach ms f r =
        let w = found_from p searched ms f r in
        let x = walk_spreads (kind_of p) (R w.from) (spreads w.from) w.walk 0 (start w.from w.to w.sought) in
        let e : 0 + length ms ≡ length ms = omega arith in
        (w.from, w.to, w.sought, (x.0, subst (λ k. R w.from k x.0 w.to) e x.1))

  -- ---- no more steps than contexts

  module _ (stays : Inside m) where
    pub move_inside : (p : Property) → Searched p → (q b c : ℕ) → T (makeable m gs ((kind_of p).move q b c)) → (b ≤ m.contexts) × (c ≤ m.contexts)
    move_inside (integrity A B) s zero b c h = ends m gs stays (transition b c) h
    move_inside (integrity A B) s (suc q) b c h = ends m gs stays (transfer b c) h
    move_inside (confidentiality A B) s zero b c h = ends m gs stays (transition b c) h
    move_inside (confidentiality A B) s (suc q) b c h = let e = ends m gs stays (transfer c b) h in (e.1, e.0)
    move_inside (consistency A B) s q b c h = let e = ends m gs stays (transfer c b) h in (e.1, e.0)
    move_inside (domain A) s q b c h = elim s [ ]

    abbrev within : ℕ → Bool
    within c = leb c m.contexts

    walk_within : (p : Property) → Searched p → {q c d k : ℕ} → c ≤ m.contexts → Walk (kind_of p) (makeable m gs) (λ c. true) q c d k → Walk (kind_of p) (makeable m gs) within q c d k
    walk_within p s {c = c} h (stop o) = stop (le→leb c m.contexts h)
    walk_within p s h (go {c = c} q b l f o v w) = go q b l f (le→leb b m.contexts h) v (walk_within p s (move_inside p s q b c v).1 w)

    first_inside : (p : Property) → Searched p → {q c d k : ℕ} → Walk (kind_of p) (makeable m gs) (λ c. true) q c d k → (k ≡ 0) ⊎ (c ≤ m.contexts)
    first_inside p s (stop o) = inl refl
    first_inside p s (go {c = c} q b l f o v w) = inr (move_inside p s q b c v).0

    pub found_short : (p : Property) → Searched p → (k : ℕ) → Found p k → (j : ℕ) × (j ≤ m.contexts) × Found p j
    found_short p s k f =
        ⊎_elim
        (λ e. (k, omega arith, f))
        (λ h. let r = shorten (kind_of p) (makeable m gs) (suc m.contexts) m.contexts within (λ c t. leb→le c m.contexts t) (size_most within m.contexts) 0 f.from f.to k (walk_within p s h f.walk) in
        (r.moves, omega (arith, r.few), record { from = f.from; to = f.to; sought = f.sought; walk = r.walk }))
        (first_inside p s f.walk)

    -- a broken property is shown in no more steps than there are contexts
    pub broken_few : (p : Property) → Searched p → {ss : List Step} → Broken m gs p ss → length ss ≤ m.contexts
    broken_few p s b =
        let x = found_short p s (length b.moves) (found_from p s b.moves b.sought (shown_realised m gs b)) in
        let c = breach_from p x.0 x.2 in
        omega (arith, b.shortest c.moves c.forbidden c.realises, c.count, x.1)
