-- An activity that a legal run realises is a walk through the graph, by its nodes, and the order of walks is that of activities.
use Rattle.std.proofs.Common.{◌≡◌, ℕ, zero, suc, ◌+◌, ◌-◌, ◌*◌, ◌/◌, ◌%◌, ◌<◌, ◌≤◌, Bool, true, T, eqb, leb, ◌⊎◌, List, [], ◌∷◌, ◌++◌, length, get_or, sym, refl, ap, ap₂, ◌∙◌, subst, subst₂, inl, inr, ⊎_elim, arith, eqb→eq, leb→le, length-append}
use mathlib.Core.Path.{fun_ext}
use Rattle.std.specs.List.{AllByRecursion, flat_map}
use Rattle.std.proofs.lemmas.Bool.{cases_lt, and_from, and_parts, le-leb, eq-eqb}
use Rattle.std.proofs.lemmas.Nat.{div_below, div-add-mod'}
use Rattle.std.proofs.Math.Nat.{mul-le-mul_right}
use Rattle.std.proofs.lemmas.List.{append_assoc, append-nil}
use Rattle.std.proofs.lemmas.Grind.{flat_map-append}
use Rattle.access.specs.Contexts.{inside}
use Rattle.access.specs.Policy.{Meaning}
use Rattle.access.specs.Sound.{Sound}
use Rattle.access.proofs.Tests.{T_true, both_parts}
use Rattle.verdicts.specs.Runs.{Grants}
use Rattle.verdicts.specs.Activities.{Move, Chain, same, next}
use Rattle.verdicts.specs.Possible.{makeable}
use Rattle.verdicts.specs.Searches.{Search}
use Rattle.verdicts.specs.Verdicts.{Realises, NoneRealised, AtLeast}
use Rattle.verdicts.specs.First.{along_way, leg, Lower, FirstOf}
use Rattle.verdicts.proofs.Moves.{realised}
use Rattle.verdicts.proofs.Chains.{all_front, all_back}
use Rattle.search.specs.Problem.{Problem, Nowhere, Least}
use Rattle.search.specs.Trails.{Trail, Before}
use Rattle.search.specs.Trails.Trail.{begin, onward}
use Rattle.search.specs.Queue.{at, back, way_back, Found}
use Rattle.search.specs.declared.breadth_first.Place.{Place}
use Rattle.search.proofs.Trails.{trail_way, back_length}
use Rattle.judge.specs.declared.step.Step.{Step}
use Rattle.judge.specs.Kinds.{Early, here, on, last_move, turned, KindLaws}
use Rattle.judge.specs.Nodes.{node, phase, context, move_of}
use Rattle.judge.specs.Traced.{Traced}
use Rattle.judge.specs.Found.{Leads}
use Rattle.judge.proofs.GoingWalks.{turned_each, turned_length}
use Rattle.judge.proofs.Inside.{joined_inside}
use Rattle.judge.proofs.Reached.{phase_node, context_node, node_below}
use Rattle.judge.proofs.Tables.{tab, tab_same, tab_parts}
use Rattle.judge.proofs.Tracing.{traced, walked, counted, traced_along, traced_back}
use Rattle.judge.specs.Plan.{among, plan, up, line}

-- ---- the way back, by its nodes, is the line to the place that was found

up_shift : (ps : List Place) (i x : ℕ) → up ps (at ps x).parent i ≡ up ps x (suc i)
up_shift ps zero x = refl
up_shift ps (suc i) x = ap (λ y. (at ps y).parent) (up_shift ps i x)

back_node : (ps : List Place) (d x i : ℕ) → i ≤ d → get_or (back ps d x) i 0 ≡ (at ps (up ps x i)).node
back_node ps zero x zero l = refl
back_node ps zero x (suc i) l = absurd (omega arith)
back_node ps (suc d) x zero l = refl
back_node ps (suc d) x (suc i) l = back_node ps d (at ps x).parent i (omega arith) ∙ ap (λ y. (at ps y).node) (up_shift ps i x)

line_nodes : (ps : List Place) (last : ℕ) → line ps last ≡ (λ d. get_or (way_back ps last) ((at ps last).depth - d) 0)
line_nodes ps last = fun_ext (λ d. sym (back_node ps (at ps last).depth last ((at ps last).depth - d) (omega arith)))

-- ---- the moves along nodes, of which the last stands in front

abbrev pub moves_on : Search → ℕ → List ℕ → List Move
moves_on kind n [] = []
moves_on kind n (v ∷ []) = []
moves_on kind n (v ∷ (u ∷ us)) = moves_on kind n (u ∷ us) ++ move_of kind n u v ∷ []

moves_tab : (kind : Search) (n : ℕ) (vs : List ℕ) (k : ℕ) → length vs ≡ suc k → moves_on kind n vs ≡ tab (λ j. move_of kind n (get_or vs (k - j) 0) (get_or vs (k - suc j) 0)) k
moves_tab kind n [] k e = absurd (omega arith)
moves_tab kind n (v ∷ []) zero e = refl
moves_tab kind n (v ∷ []) (suc k) e = absurd (omega arith)
moves_tab kind n (v ∷ (u ∷ us)) zero e = absurd (omega arith)
moves_tab kind n (v ∷ (u ∷ us)) (suc k) e =
    let f : ℕ → Move = λ j. move_of kind n (get_or (v ∷ (u ∷ us)) (suc k - j) 0) (get_or (v ∷ (u ∷ us)) (suc k - suc j) 0) in
    let g : ℕ → Move = λ j. move_of kind n (get_or (u ∷ us) (k - j) 0) (get_or (u ∷ us) (k - suc j) 0) in
    ap (λ xs. xs ++ move_of kind n u v ∷ [])
    (moves_tab kind n (u ∷ us) k (omega arith)
    ∙ tab_same g f k (λ j b.
    let p : suc k - j ≡ suc (k - j) = omega arith in
    let q : suc k - suc j ≡ suc (k - suc j) = omega arith in
    sym (ap₂ (λ x y. move_of kind n (get_or (v ∷ (u ∷ us)) x 0) (get_or (v ∷ (u ∷ us)) y 0)) p q)))
    ∙ sym (tab_parts f (λ j. move_of kind n u v) k 1 (suc k) (omega arith) (λ j i b d.
    let p : suc k - i ≡ 1 = omega arith in
    let q : suc k - suc i ≡ 0 = omega arith in
    ap₂ (λ x y. move_of kind n (get_or (v ∷ (u ∷ us)) x 0) (get_or (v ∷ (u ∷ us)) y 0)) p q))

-- ---- lists of numbers

lower_front : (xs ys us vs : List ℕ) → Lower xs ys → Lower (xs ++ us) (ys ++ vs)
lower_front [] ys us vs h = absurd h
lower_front (x ∷ xs) [] us vs h = absurd h
lower_front (x ∷ xs) (y ∷ ys) us vs (inl h) = inl h
lower_front (x ∷ xs) (y ∷ ys) us vs (inr h) = inr (h.0, lower_front xs ys us vs h.1)

lower_behind : (xs us vs : List ℕ) → Lower us vs → Lower (xs ++ us) (xs ++ vs)
lower_behind [] us vs h = h
lower_behind (x ∷ xs) us vs h = inr (refl, lower_behind xs us vs h)

-- a lower node is of an earlier phase, or in the same of a lower context
lower_node : (n v w : ℕ) → v < w → (phase n v < phase n w) ⊎ ((phase n v ≡ phase n w) × (context n v < context n w))
lower_node n v w h =
    ⊎_elim
    inl
    (λ (l : w / n ≤ v / n).
    ⊎_elim
    (λ (s : w / n < v / n). absurd (omega (arith, mul-le-mul_right n s, div-add-mod' v n, div-add-mod' w n, h)))
    (λ (s : v / n ≤ w / n).
    let e : v / n ≡ w / n = omega arith in
    let d = subst (λ q. q * n + v % n ≡ v) e (div-add-mod' v n) in
    inr (e, omega (arith, d, div-add-mod' w n, h)))
    (cases_lt (w / n) (v / n)))
    (cases_lt (v / n) (w / n))

module _ (m : Meaning) (gs : Grants) (l : Sound m) {kind : Search} {back : Bool} {activities : ℕ → ℕ → List Move → Type 0} (laws : KindLaws kind back activities) (A B : ℕ → Bool) where
  abbrev n : ℕ
  n = m.contexts

  abbrev p : Problem
  p = plan kind m gs A B

  abbrev each : List Move → Type 0
  each ms = AllByRecursion (λ v. T (makeable m gs v)) ms

  moves_more : {b : ℕ} {vs : List ℕ} → Trail p b vs → (v : ℕ) → moves_on kind n (v ∷ vs) ≡ moves_on kind n vs ++ move_of kind n b v ∷ []
  moves_more (begin h e) v = refl
  moves_more (onward t h e) v = refl

  head : {b : ℕ} {vs : List ℕ} → Trail p b vs → get_or vs 0 0 ≡ b
  head (begin h e) = refl
  head (onward t h e) = refl

  moves_count : {b : ℕ} {vs : List ℕ} → Trail p b vs → length vs ≡ suc (length (moves_on kind n vs))
  moves_count (begin h e) = refl
  moves_count (onward {b = b} {c = c} {vs = vs} t h e) = omega (arith, moves_count t, ap length (moves_more t c), length-append (moves_on kind n vs) (move_of kind n b c ∷ []))

  -- ---- an activity leads along a walk

  -- moves lead from a member of A to the context c in phase q
  record Led (q c : ℕ) (ms : List Move) : Type 0 where
    pub nodes : List ℕ
    pub low : 1 ≤ c
    pub high : c ≤ n
    pub here : q < kind.phases
    pub trail : Trail p (node n q c) nodes
    pub moves : moves_on kind n nodes ≡ ms

  led_start : (a : ℕ) → T (among n A a) → Led 0 a []
  led_start a h =
      let i = both_parts (leb 1 a) (leb a n) (both_parts (inside n a) (A a) h).0 in
      let low : 1 ≤ a = leb→le 1 a i.0 in
      let high : a ≤ n = leb→le a n i.1 in
      let some : 0 < kind.phases = omega (arith, laws.some) in
      record {
        nodes = node n 0 a ∷ [];
        low = low;
        high = high;
        here = some;
        trail = begin (node_below n 0 a kind.phases low high some)
            (and_from (eqb (phase n (node n 0 a)) 0) (among n A (context n (node n 0 a))) (eq-eqb (phase n (node n 0 a)) 0 (phase_node n 0 a low high)) (T_true _ (subst (λ c. T (among n A c)) (sym (context_node n 0 a low high)) h)));
        moves = refl;
      }

  led_on : {q c : ℕ} {ms : List Move} → Led q c ms → (r d : ℕ) → q ≤ r → r < kind.phases → T (makeable m gs (kind.move r c d)) → Led r d (ms ++ kind.move r c d ∷ [])
  led_on {q} {c} g r d le f v =
      let e = joined_inside m gs l c d (kind.move r c d) (laws.joins r c d) v in
      let is : move_of kind n (node n q c) (node n r d) ≡ kind.move r c d = cc (phase_node n r d e.2 e.3, context_node n q c g.low g.high, context_node n r d e.2 e.3) in
      record {
        nodes = node n r d ∷ g.nodes;
        low = e.2;
        high = e.3;
        here = f;
        trail = onward g.trail (node_below n r d kind.phases e.2 e.3 f)
            (and_from (leb (phase n (node n q c)) (phase n (node n r d))) _
            (le-leb _ _ (subst₂ (λ x y. x ≤ y) (sym (phase_node n q c g.low g.high)) (sym (phase_node n r d e.2 e.3)) le))
            (T_true _ (subst (λ w. T (makeable m gs w)) (sym is) v)));
        moves = moves_more g.trail (node n r d) ∙ ap₂ (λ xs w. xs ++ w ∷ []) g.moves is;
      }

  led_early : {r c v : ℕ} {us : List Move} → Early kind r c v us → {q : ℕ} {ms : List Move} → Led q c ms → q ≤ r → each us → (s : ℕ) × Led s v (ms ++ us)
  led_early {v = v} here {q} {ms} g le h = (q, subst (Led q v) (sym (append-nil ms)) g)
  led_early {v = v} (on {q = r} {c = c} {ms = us} b later few early) {q} {ms} g le h =
      let x = led_early early (led_on g r c (omega arith) (omega arith) h.0) (omega arith) h.1 in
      (x.0, subst (Led x.0 v) (append_assoc ms (kind.move r b c ∷ []) us) x.1)

  led_late : {c d : ℕ} {us : List Move} → Chain (last_move kind) c d us → {q : ℕ} {ms : List Move} → Led q c ms → each us → (s : ℕ) × Led s d (ms ++ us)
  led_late {d = d} same {q} {ms} g h = (q, subst (Led q d) (sym (append-nil ms)) g)
  led_late {d = d} (next {c = c} {ms = us} b r) {q} {ms} g h =
      let x = led_late r (led_on g (kind.phases - 1) c (omega (arith, g.here)) (omega (arith, laws.some)) h.0) h.1 in
      (x.0, subst (Led x.0 d) (append_assoc ms (last_move kind b c ∷ []) us) x.1)

  -- the walk along which an activity leads to a member of B
  pub record Trailed (ms : List Move) : Type 0 where
    pub last : ℕ
    pub nodes : List ℕ
    pub trail : Trail (plan kind m gs A B) last nodes
    pub ends : (plan kind m gs A B).target last ≡ true
    pub forth : along_way back ms ≡ moves_on kind m.contexts nodes
    pub again : ms ≡ along_way back (moves_on kind m.contexts nodes)
    pub count : length nodes ≡ suc (length ms)

  pub trailed : (ms : List Move) → Leads activities (among m.contexts A) B ms → Realises m gs ms → Trailed ms
  trailed ms h r =
      let g = (laws.ways h.from h.to ms).0 h.holds in
      let us = turned back g.rest in
      let all : each (g.front ++ us) = subst each g.order ((realised m gs ms).0 r) in
      let early = led_early g.early (led_start h.from h.from_in) (omega arith) (all_front _ g.front us all) in
      let late = led_late g.late early.1 (turned_each kind (makeable m gs) back g.rest (all_back _ g.front us all)) in
      let w = late.1 in
      let t = laws.way.turns g.early g.late in
      record {
        last = node n late.0 h.to;
        nodes = w.nodes;
        trail = w.trail;
        ends = T_true _ (subst (λ c. T (B c)) (sym (context_node n late.0 h.to w.low w.high)) h.to_in);
        forth = ap (along_way back) g.order ∙ t.0 ∙ sym w.moves;
        again = g.order ∙ sym t.1 ∙ ap (along_way back) (sym w.moves);
        count = omega (arith, moves_count w.trail, ap length w.moves, length-append g.front g.rest, ap length g.order, length-append g.front us, turned_length back g.rest);
      }

  pub none_trailed : Nowhere (plan kind m gs A B) → NoneRealised m gs (Leads activities (among m.contexts A) B)
  none_trailed never ms h r = let t = trailed ms h r in let w = trail_way t.trail in never t.last w.0 t.ends w.2

  pub least_trailed : (k : ℕ) → Least (plan kind m gs A B) k → AtLeast m gs (Leads activities (among m.contexts A) B) k
  least_trailed k least ms h r = let t = trailed ms h r in let w = trail_way t.trail in omega (arith, least t.last w.0 t.ends w.2, w.1, t.count)

  -- ---- of walks as long as one another, the one that comes first has the lower way

  abbrev legs : List ℕ → List ℕ
  legs vs = flat_map (leg back) (moves_on kind n vs)

  legs_more : {b : ℕ} {vs : List ℕ} → Trail p b vs → (v : ℕ) → legs (v ∷ vs) ≡ legs vs ++ (context n b ∷ laws.way.tag (phase n v) ∷ context n v ∷ [])
  legs_more {b} {vs} t v =
      ap (flat_map (leg back)) (moves_more t v) ∙ flat_map-append (leg back) (moves_on kind n vs) (move_of kind n b v ∷ [])
      ∙ ap (λ xs. legs vs ++ xs) (append-nil (leg back (move_of kind n b v)) ∙ laws.way.legs (phase n v) (context n b) (context n v))

  -- neither walk has a move, and the one starts at a lower context, or it has the lower way
  abbrev Parted : ℕ → ℕ → List ℕ → List ℕ → Type 0
  Parted b c vs ws = ((moves_on kind n vs ≡ []) × (moves_on kind n ws ≡ []) × (context n b < context n c)) ⊎ Lower (legs vs) (legs ws)

  at_start : (v : ℕ) → p.source v ≡ true → v % n ≡ v
  at_start v e =
      let z : phase n v ≡ 0 = eqb→eq (phase n v) 0 (subst T (sym (and_parts _ _ e).0) tt) in
      omega (arith, subst (λ q. q * n + v % n ≡ v) z (div-add-mod' v n))

  parted : {b c : ℕ} {vs ws : List ℕ} → Trail p b vs → Trail p c ws → length vs ≡ length ws → Before vs ws → Parted b c vs ws
  parted (begin h e) (begin k f) s (inl before) = absurd before
  parted (begin {a = a} h e) (begin {a = b} k f) s (inr lower) = inl (refl, refl, omega (arith, at_start a e, at_start b f, lower.1))
  parted (begin h e) (onward u k f) s before = absurd (omega (arith, s, moves_count u))
  parted (onward t h e) (begin k f) s before = absurd (omega (arith, s, moves_count t))
  parted (onward {b = b} {c = v} {vs = vs} t h e) (onward {b = c} {c = w} {vs = ws} u k f) s (inl before) =
      ⊎_elim
      (λ z. inr (subst₂ Lower (sym (legs_more t v ∙ ap (λ xs. flat_map (leg back) xs ++ (context n b ∷ laws.way.tag (phase n v) ∷ context n v ∷ [])) z.0))
      (sym (legs_more u w ∙ ap (λ xs. flat_map (leg back) xs ++ (context n c ∷ laws.way.tag (phase n w) ∷ context n w ∷ [])) z.1)) (inl z.2)))
      (λ z. inr (subst₂ Lower (sym (legs_more t v)) (sym (legs_more u w)) (lower_front (legs vs) (legs ws) (context n b ∷ laws.way.tag (phase n v) ∷ context n v ∷ []) (context n c ∷ laws.way.tag (phase n w) ∷ context n w ∷ []) z)))
      (parted t u (omega arith) before)
  parted (onward {b = b} {c = v} {vs = vs} t h e) (onward {b = c} {c = w} {vs = ws} u k f) s (inr lower) =
      let same : context n b ≡ context n c = ap (context n) (sym (head t) ∙ ap (λ xs. get_or xs 0 0) lower.0 ∙ head u) in
      let last : Lower (laws.way.tag (phase n v) ∷ context n v ∷ []) (laws.way.tag (phase n w) ∷ context n w ∷ []) =
      ⊎_elim
      (λ z. inl (laws.way.rising (phase n v) (phase n w) z (div_below w n kind.phases l.a_context k)))
      (λ z. inr (ap laws.way.tag z.0, inl z.1))
      (lower_node n v w lower.1) in
      inr (subst₂ Lower (sym (legs_more t v)) (sym (legs_more u w ∙ ap (λ xs. legs xs ++ (context n c ∷ laws.way.tag (phase n w) ∷ context n w ∷ [])) (sym lower.0)))
      (lower_behind (legs vs) (context n b ∷ laws.way.tag (phase n v) ∷ context n v ∷ []) (context n c ∷ laws.way.tag (phase n w) ∷ context n w ∷ []) (inr (same, last))))

  -- what a search finds is the first of the shortest activities
  module _ (ps : List Place) (last : ℕ) (f : Found (plan kind m gs A B) ps last) (ss : List Step) (t : Traced kind m gs back (line ps last) (at ps last).depth ss) where
    abbrev k : ℕ
    k = (at ps last).depth

    abbrev shown : List Move
    shown = traced m gs laws (line ps last) k ss t

    walked_nodes : walked m gs laws (line ps last) k ss t ≡ moves_on kind n (way_back ps last)
    walked_nodes = ap (λ (x : ℕ → ℕ). tab (λ j. move_of kind n (x j) (x (suc j))) k) (line_nodes ps last) ∙ sym (moves_tab kind n (way_back ps last) k (back_length ps k last))

    pub first_found : FirstOf m gs (Leads activities (among m.contexts A) B) back (traced m gs laws (line ps last) (at ps last).depth ss t)
    first_found ms h r e =
        let x = trailed ms h r in
        let forth : along_way back shown ≡ moves_on kind n (way_back ps last) = traced_along m gs laws (line ps last) k ss t ∙ walked_nodes in
        let again : shown ≡ along_way back (moves_on kind n (way_back ps last)) = traced_back m gs laws (line ps last) k ss t ∙ ap (along_way back) walked_nodes in
        let long : length x.nodes ≡ length (way_back ps last) = omega (arith, x.count, e, counted m gs laws (line ps last) k ss t, back_length ps k last) in
        ⊎_elim
        (λ z. inl (x.again ∙ ap (λ vs. along_way back (moves_on kind n vs)) (sym z) ∙ sym again))
        (λ z. ⊎_elim
        (λ y. inl (x.again ∙ ap (along_way back) (y.1 ∙ sym y.0) ∙ sym again))
        (λ y. inr (subst₂ Lower (ap (flat_map (leg back)) (sym forth)) (ap (flat_map (leg back)) (sym x.forth)) y))
        (parted f.trail x.trail (sym long) z))
        (f.first x.last x.nodes x.ends x.trail long)
