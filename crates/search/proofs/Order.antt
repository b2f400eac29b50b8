-- Why the way back from the place that is found is the first of the shortest walks.
use Rattle.std.proofs.Common.{◌≡◌, ℕ, suc, ◌+◌, ◌-◌, ◌<◌, ◌≤◌, Bool, true, false, ◌⊎◌, List, [], ◌∷◌, length, Some, None, sym, refl, ap, ◌∙◌, subst, subst₂, inl, inr, ⊎_elim, add-one, arith}
use Rattle.std.proofs.lemmas.Bool.{cases_eq, cases_lt}
use Rattle.search.specs.Problem.{Problem, Walk}
use Rattle.search.specs.Problem.Walk.{stay, step}
use Rattle.search.specs.Trails.{Trail, Before, NotAfter, Foremost}
use Rattle.search.specs.Trails.Trail.{begin, onward}
use Rattle.search.specs.Queue.{at, way_back, At, Children, Born, Grown, Struck, Ordered, Spread}
use Rattle.search.specs.declared.breadth_first.Place.{Place}
use Rattle.search.proofs.Asked.{leads_on}
use Rattle.search.proofs.Trails.{before_then, behind, lower, trail_way, back_length, back_on, back_start, way_same}

-- ---- walks by their nodes, taken apart

some_nodes : {p : Problem} {b : ℕ} {vs : List ℕ} → Trail p b vs → 0 < length vs
some_nodes (begin l s) = omega arith
some_nodes (onward t l e) = omega arith

single : {p : Problem} {b : ℕ} {vs : List ℕ} → Trail p b vs → length vs ≡ 1 → (vs ≡ b ∷ []) × (b < p.nodes) × (p.source b ≡ true)
single (begin l s) e = (refl, l, s)
single (onward t l f) e = absurd (omega (arith, some_nodes t))

-- the last edge of a walk to c, and the walk in front of it
record LastEdge (p : Problem) (c d : ℕ) (vs : List ℕ) : Type 0 where
  before : ℕ
  nodes : List ℕ
  trail : Trail p before nodes
  inside : c < p.nodes
  edge : p.edge before c ≡ true
  is : vs ≡ c ∷ nodes
  count : length nodes ≡ suc d

last_edge : {p : Problem} {c d : ℕ} {vs : List ℕ} → Trail p c vs → length vs ≡ suc (suc d) → LastEdge p c d vs
last_edge (begin l s) e = absurd (omega arith)
last_edge (onward {b = b} {vs = vs} t l f) e = record { before = b; nodes = vs; trail = t; inside = l; edge = f; is = refl; count = omega arith }

-- ---- what the scan so far has reached

module _ (p : Problem) (ts : List ℕ) (ps : List Place) (used head : ℕ) (s : Spread p ts ps used head) where
  -- a walk of at most d edges ends at a used place, where the used places that are less deep than d have been scanned
  pub reach : (d a : ℕ) → ((i : ℕ) → i < used → (at ps i).depth < d → i < head) → p.source a ≡ true → (b k : ℕ) → Walk p a b k → k ≤ d → At ps used b k
  reach d a f t b k (stay l) m = s.sources a l t
  reach d a f t b k (step {b = b'} {k = k'} w l e) m =
      let x = reach d a f t b' k' w (omega arith) in
      let y = s.scanned x.index (f x.index x.below (omega (arith, x.depth))) b l (subst (λ v. p.edge v b ≡ true) (sym x.is) e) in
      record { index = y.index; below = y.below; is = y.is; depth = omega (arith, y.depth, x.depth) }

  -- a used place that is less deep than the place `head` stands before it
  pub before_head : (i : ℕ) → i < used → (at ps i).depth < (at ps head).depth → i < head
  before_head i m n =
      ⊎_elim
      (λ (h : i < head). h)
      (λ (h : head ≤ i). absurd (omega (arith, s.queue.rising head i h m)))
      (cases_lt i head)

-- ---- a scan of the place `head`

module _ (p : Problem) {ts : List ℕ} {ps : List Place} {used head : ℕ} (s : Spread p ts ps used head) (l : head < used) where
  -- a walk to a node without a place, one edge longer than the walks to `head`: its last edge leaves `head` or a later place
  tail_first : (c : ℕ) → ((i : ℕ) → i < used → (at ps i).node ≡ c → ⊥) → (u : ℕ) (vs : List ℕ) → Trail p u vs → length vs ≡ suc (at ps head).depth → c < p.nodes → p.edge u c ≡ true →
      ((u ≡ (at ps head).node) × NotAfter (way_back ps head) vs) ⊎ Before (way_back ps head) vs
  tail_first c none u vs t e inside f =
      let w = trail_way t in
      let x = reach p ts ps used head s (at ps head).depth w.2.start (before_head p ts ps used head s) w.2.begins u w.0 w.2.walk (omega (arith, w.1)) in
      ⊎_elim
      (λ (h : x.index < head).
      let y = s.scanned x.index h c inside (subst (λ v. p.edge v c ≡ true) (sym x.is) f) in
      absurd (none y.index y.below y.is))
      (λ (h : head ≤ x.index).
      let level : (at ps head).depth ≡ (at ps x.index).depth = omega (arith, s.queue.rising head x.index h x.below, x.depth, w.1) in
      let n = s.ordered.first x.index x.below vs (subst (λ v. Trail p v vs) (sym x.is) t) (e ∙ ap suc level) in
      ⊎_elim
      (λ (k : x.index ≡ head). inl (sym x.is ∙ ap (λ i. (at ps i).node) k, subst (λ i. NotAfter (way_back ps i) vs) k n))
      (λ (k : x.index ≡ head → ⊥). inr (before_then (way_back ps head) (way_back ps x.index) vs (s.ordered.order head x.index (omega arith) x.below level) n))
      (cases_eq x.index head))
      (cases_lt x.index head)

  any_first : (c : ℕ) → ((i : ℕ) → i < used → (at ps i).node ≡ c → ⊥) → (ws : List ℕ) → Trail p c ws → length ws ≡ suc (suc (at ps head).depth) → NotAfter (c ∷ way_back ps head) ws
  any_first c none ws t e =
      let z = last_edge t e in
      let n : NotAfter (way_back ps head) z.nodes = ⊎_elim (λ h. h.1) (λ h. inr h) (tail_first c none z.before z.nodes z.trail z.count z.inside z.edge) in
      subst (NotAfter (c ∷ way_back ps head)) (sym z.is) (behind c (way_back ps head) z.nodes n)

  module _ {ts' : List ℕ} {ps' : List Place} {more bound : ℕ} (g : Grown p ts ts' ps ps' used more) (ch : Children p (Some (at ps head).node) head ((at ps head).depth + 1) ps' used more bound) where
    old_way : (i : ℕ) → i < used → way_back ps' i ≡ way_back ps i
    old_way i m = way_same p ps used s.queue.sound ps' g.same i m

    old_depth : (i : ℕ) → i < used → (at ps' i).depth ≡ (at ps i).depth
    old_depth i m = ap (λ (q : Place). q.depth) (g.same i m)

    old_node : (i : ℕ) → i < used → (at ps' i).node ≡ (at ps i).node
    old_node i m = ap (λ (q : Place). q.node) (g.same i m)

    child_way : (j : ℕ) → used ≤ j → j < more → way_back ps' j ≡ (at ps' j).node ∷ way_back ps head
    child_way j m k =
        let c = ch.each j m k in
        let up : (at ps' (at ps' j).parent).depth ≡ (at ps head).depth = ap (λ i. (at ps' i).depth) c.parent ∙ old_depth head l in
        back_on ps' j (at ps head).depth (c.depth ∙ add-one _) up ∙ ap (λ i. (at ps' j).node ∷ way_back ps' i) c.parent ∙ ap (λ vs. (at ps' j).node ∷ vs) (old_way head l)

    unplaced : (j : ℕ) → used ≤ j → j < more → (i : ℕ) → i < used → (at ps i).node ≡ (at ps' j).node → ⊥
    unplaced j m k i h e = ch.fresh i j h m k (old_node i h ∙ e)

    -- an old place that is as deep as the new ones has an earlier parent
    old_before : (i j : ℕ) → i < used → used ≤ j → j < more → (at ps' i).depth ≡ (at ps' j).depth → Before (way_back ps' i) (way_back ps' j)
    old_before i j h m k e =
        let c = ch.each j m k in
        let level : (at ps i).depth ≡ suc (at ps head).depth = sym (old_depth i h) ∙ e ∙ c.depth ∙ add-one _ in
        let deep : 0 < (at ps i).depth = omega arith in
        let o = s.queue.sound i h in
        let a = o.after deep in
        let up = (at ps i).parent in
        let one : (at ps up).depth ≡ (at ps head).depth = omega (arith, a.depth) in
        let b = s.ordered.order up head (s.ordered.parents i h deep) l one in
        subst₂ Before (sym (old_way i h ∙ back_on ps i (at ps head).depth level one)) (sym (child_way j m k)) (inl b)

    child_before : (i j : ℕ) → used ≤ i → i < j → j < more → Before (way_back ps' i) (way_back ps' j)
    child_before i j h m k = subst₂ Before (sym (child_way i h (omega arith))) (sym (child_way j (omega arith) k)) (inr (refl, ch.rising i j h m k))

    pub order_on : Ordered p ps' more (head + 1)
    order_on =
        record {
          order = λ i j m k e.
              ⊎_elim
              (λ (h : j < used). subst₂ Before (sym (old_way i (omega arith))) (sym (old_way j h)) (s.ordered.order i j m h (sym (old_depth i (omega arith)) ∙ e ∙ old_depth j h)))
              (λ (h : used ≤ j). ⊎_elim (λ (n : i < used). old_before i j n h k e) (λ (n : used ≤ i). child_before i j n m k) (cases_lt i used))
              (cases_lt j used);
          first = λ i k vs t e.
              ⊎_elim
              (λ (h : i < used). subst (λ us. NotAfter us vs) (sym (old_way i h)) (s.ordered.first i h vs (subst (λ v. Trail p v vs) (old_node i h) t) (e ∙ ap suc (old_depth i h))))
              (λ (h : used ≤ i).
              let c = ch.each i h k in
              subst (λ us. NotAfter us vs) (sym (child_way i h k)) (any_first (at ps' i).node (unplaced i h k) vs t (e ∙ ap suc (c.depth ∙ add-one _))))
              (cases_lt i used);
          parents = λ i k deep.
              ⊎_elim
              (λ (h : i < used). omega (arith, s.ordered.parents i h (omega (arith, old_depth i h)), ap (λ (q : Place). q.parent) (g.same i h)))
              (λ (h : used ≤ i). let c = ch.each i h k in omega (arith, c.parent))
              (cases_lt i used);
        }

  -- the scan met a target
  module _ {ts' : List ℕ} {ps' : List Place} {more : ℕ} (w : Struck p ts ts' ps ps' used more ((at ps head).depth + 1)) (b : Born p (Some (at ps head).node) head ((at ps head).depth + 1) ps' used more true) where
    ch : Children p (Some (at ps head).node) head ((at ps head).depth + 1) ps' used more ((at ps' (more - 1)).node + 1)
    ch = b.0

    -- the target is a new place
    new_last : used ≤ more - 1
    new_last =
        ⊎_elim
        (λ (h : more - 1 < used). absurd (s.«open» (more - 1) h (subst (λ (q : Place). p.target q.node ≡ true) (w.grown.same (more - 1) h) w.target)))
        (λ (h : used ≤ more - 1). h)
        (cases_lt (more - 1) used)

    pub foremost_on : Foremost p (way_back ps' (more - 1))
    foremost_on c ws t r e =
        let below : more - 1 < more = omega (arith, w.some) in
        let way = child_way w.grown ch (more - 1) new_last below in
        let none : (i : ℕ) → i < used → (at ps i).node ≡ c → ⊥ = λ i h k. s.«open» i h (subst (λ v. p.target v ≡ true) (sym k) t) in
        let count : length ws ≡ suc (suc (at ps head).depth) = e ∙ back_length ps' (at ps' (more - 1)).depth (more - 1) ∙ ap suc (w.depth ∙ add-one _) in
        let z = last_edge r count in
        let v = (at ps' (more - 1)).node in
        subst₂ NotAfter (sym way) (sym z.is)
        (⊎_elim
        (λ (h : (z.before ≡ (at ps head).node) × NotAfter (way_back ps head) z.nodes).
        ⊎_elim
        (λ (k : c < v + 1).
        let x = ch.all c k (subst (λ (e : ℕ → Bool). e c ≡ true) (sym (leads_on p (at ps head).node (s.queue.sound head l).node)) (subst (λ u. p.edge u c ≡ true) h.0 z.edge)) in
        ⊎_elim
        (λ (m : x.0 < more - 1). absurd (b.1 x.0 m (subst (λ u. p.target u ≡ true) (sym x.2) t)))
        (λ (m : more - 1 ≤ x.0).
        let i : x.0 ≡ more - 1 = omega (arith, x.1) in
        let same : v ≡ c = ap (λ k. (at ps' k).node) (sym i) ∙ x.2 in
        subst (λ u. NotAfter (v ∷ way_back ps head) (u ∷ z.nodes)) same (behind v (way_back ps head) z.nodes h.1))
        (cases_lt x.0 (more - 1)))
        (λ (k : v + 1 ≤ c). inr (lower v c (way_back ps head) z.nodes h.1 (omega arith)))
        (cases_lt c (v + 1)))
        (λ (h : Before (way_back ps head) z.nodes). inr (inl h))
        (tail_first c none z.before z.nodes z.trail z.count z.inside z.edge))

-- ---- the sources

source_way : {p : Problem} {ps : List Place} {used more bound : ℕ} → used ≡ 0 → Children p None 0 0 ps used more bound → (i : ℕ) → i < more → way_back ps i ≡ (at ps i).node ∷ []
source_way {ps = ps} z ch i l = back_start ps i (ch.each i (omega arith) l).depth

module _ (p : Problem) {ts ts' : List ℕ} {ps ps' : List Place} {used more : ℕ} (z : used ≡ 0) where
  pub order_start : Grown p ts ts' ps ps' used more → Born p None 0 0 ps' used more false → Ordered p ps' more 0
  order_start g ch =
      record {
        order = λ i j m k e. subst₂ Before (sym (source_way z ch i (omega arith))) (sym (source_way z ch j k)) (inr (refl, ch.rising i j (omega arith) m k));
        first = λ i l vs t e. let c = ch.each i (omega arith) l in inl (source_way z ch i l ∙ sym (single t (e ∙ ap suc c.depth)).0);
        parents = λ i l deep. let c = ch.each i (omega arith) l in absurd (omega (arith, c.depth));
      }

  pub foremost_start : Struck p ts ts' ps ps' used more 0 → Born p None 0 0 ps' used more true → Foremost p (way_back ps' (more - 1))
  foremost_start w b c ws t r e =
      let below : more - 1 < more = omega (arith, w.some) in
      let x = single r (e ∙ back_length ps' (at ps' (more - 1)).depth (more - 1) ∙ ap suc w.depth) in
      let v = (at ps' (more - 1)).node in
      subst₂ NotAfter (sym (source_way z b.0 (more - 1) below)) (sym x.0)
      (⊎_elim
      (λ (k : c < v + 1).
      let y = b.0.all c k x.2 in
      ⊎_elim
      (λ (m : y.0 < more - 1). absurd (b.1 y.0 m (subst (λ u. p.target u ≡ true) (sym y.2) t)))
      (λ (m : more - 1 ≤ y.0).
      let i : y.0 ≡ more - 1 = omega (arith, y.1) in
      let same : v ≡ c = ap (λ k. (at ps' k).node) (sym i) ∙ y.2 in
      inl (ap (λ u. u ∷ []) same))
      (cases_lt y.0 (more - 1)))
      (λ (k : v + 1 ≤ c). let h : v < c = omega arith in inr (inr (refl, h)))
      (cases_lt c (v + 1)))
