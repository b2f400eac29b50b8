-- Walks by their nodes: how they compare, and the walk along which the parents of a place lead back.
use Rattle.std.proofs.Common.{◌≡◌, ℕ, zero, suc, ◌<◌, List, [], ◌∷◌, length, sym, refl, ap, ◌∙◌, subst, inl, inr, arith}
use Rattle.search.specs.Problem.{Problem, Way}
use Rattle.search.specs.Problem.Walk.{stay, step}
use Rattle.search.specs.Trails.{Trail, Before, NotAfter}
use Rattle.search.specs.Trails.Trail.{begin, onward}
use Rattle.search.specs.Queue.{at, back, way_back, Sound}
use Rattle.search.specs.declared.breadth_first.Place.{Place}

-- ---- the order of walks with as many nodes

pub before_then : (us vs ws : List ℕ) → Before us vs → NotAfter vs ws → Before us ws
before_then us vs ws h (inl e) = subst (Before us) e h
before_then [] vs ws h (inr k) = h
before_then (u ∷ us) [] ws h (inr k) = absurd h
before_then (u ∷ us) (v ∷ vs) [] h (inr k) = k
before_then (u ∷ us) (v ∷ vs) (w ∷ ws) (inl h) (inr (inl k)) = inl (before_then us vs ws h (inr k))
before_then (u ∷ us) (v ∷ vs) (w ∷ ws) (inl h) (inr (inr k)) = inl (before_then us vs ws h (inl k.0))
before_then (u ∷ us) (v ∷ vs) (w ∷ ws) (inr h) (inr (inl k)) = inl (subst (λ xs. Before xs ws) (sym h.0) k)
before_then (u ∷ us) (v ∷ vs) (w ∷ ws) (inr h) (inr (inr k)) = inr (h.0 ∙ k.0, omega (arith, h.1, k.1))

pub not_before : (vs : List ℕ) → Before vs vs → ⊥
not_before [] h = h
not_before (v ∷ vs) (inl h) = not_before vs h
not_before (v ∷ vs) (inr h) = omega (arith, h.1)

-- of two walks neither of which comes after the other there is one
pub one_first : (vs ws : List ℕ) → NotAfter vs ws → NotAfter ws vs → vs ≡ ws
one_first vs ws (inl e) k = e
one_first vs ws (inr h) k = absurd (not_before vs (before_then vs ws vs h k))

-- the same node behind two walks, and a lower one behind the same walk
pub behind : (v : ℕ) (vs ws : List ℕ) → NotAfter vs ws → NotAfter (v ∷ vs) (v ∷ ws)
behind v vs ws (inl e) = inl (ap (λ xs. v ∷ xs) e)
behind v vs ws (inr h) = inr (inl h)

pub lower : (v w : ℕ) (vs ws : List ℕ) → NotAfter vs ws → v < w → Before (v ∷ vs) (w ∷ ws)
lower v w vs ws (inl e) l = inr (e, l)
lower v w vs ws (inr h) l = inl h

-- ---- walks by their nodes are walks

pub trail_way : {p : Problem} {b : ℕ} {vs : List ℕ} → Trail p b vs → (k : ℕ) × (length vs ≡ suc k) × Way p b k
trail_way (begin {a = a} l s) = (0, refl, record { start = a; begins = s; walk = stay l })
trail_way (onward t l e) = let r = trail_way t in (suc r.0, ap suc r.1, record { start = r.2.start; begins = r.2.begins; walk = step r.2.walk l e })

-- ---- the way back from a place

pub back_length : (ps : List Place) (d i : ℕ) → length (back ps d i) ≡ suc d
back_length ps zero i = refl
back_length ps (suc d) i = ap suc (back_length ps d (at ps i).parent)

-- where a place is not at the depth 0, its way back goes on from its parent
pub back_on : (ps : List Place) (i d : ℕ) → (at ps i).depth ≡ suc d → (at ps (at ps i).parent).depth ≡ d → way_back ps i ≡ (at ps i).node ∷ way_back ps (at ps i).parent
back_on ps i d e f = ap (λ k. back ps k i) e ∙ ap (λ k. (at ps i).node ∷ back ps k (at ps i).parent) (sym f)

pub back_start : (ps : List Place) (i : ℕ) → (at ps i).depth ≡ 0 → way_back ps i ≡ (at ps i).node ∷ []
back_start ps i e = ap (λ k. back ps k i) e

module _ (p : Problem) (ps : List Place) (used : ℕ) (sound : (i : ℕ) → i < used → Sound p ps i (at ps i)) where
  -- the way back is the nodes of a walk
  pub back_trail : (d i : ℕ) → i < used → (at ps i).depth ≡ d → Trail p (at ps i).node (back ps d i)
  back_trail zero i l e = begin (sound i l).node ((sound i l).source e)
  back_trail (suc d) i l e =
      let s = sound i l in
      let deep : 0 < (at ps i).depth = omega arith in
      let a = s.after deep in
      onward (back_trail d (at ps i).parent (omega (arith, s.earlier deep)) (omega (arith, a.depth))) s.node a.edge

  -- where the places stay, so do the ways back
  pub back_same : (qs : List Place) → ((i : ℕ) → i < used → at qs i ≡ at ps i) → (d i : ℕ) → i < used → (at ps i).depth ≡ d → back qs d i ≡ back ps d i
  back_same qs same zero i l e = ap (λ (q : Place). q.node ∷ []) (same i l)
  back_same qs same (suc d) i l e =
      let s = sound i l in
      let deep : 0 < (at ps i).depth = omega arith in
      let a = s.after deep in
      ap (λ (q : Place). q.node ∷ back qs d q.parent) (same i l)
      ∙ ap (λ xs. (at ps i).node ∷ xs) (back_same qs same d (at ps i).parent (omega (arith, s.earlier deep)) (omega (arith, a.depth)))

  pub way_same : (qs : List Place) → ((i : ℕ) → i < used → at qs i ≡ at ps i) → (i : ℕ) → i < used → way_back qs i ≡ way_back ps i
  way_same qs same i l = ap (λ (q : Place). back qs q.depth i) (same i l) ∙ back_same qs same (at ps i).depth i l refl
