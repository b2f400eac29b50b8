-- What a push does to the queue, and how steps follow one another.
use Rattle.std.proofs.Common.{◌≡◌, ℕ, zero, suc, ◌+◌, ◌-◌, ◌<◌, ◌≤◌, Bool, true, false, ◌≢◌, ◌⊎◌, List, length, get_or, set, drop, sym, refl, ap, ◌∙◌, subst, inl, inr, ⊎_elim, arith, get_or-set_other, get_or-set_same}
use Rattle.std.proofs.lemmas.List.{length-set, drop-drop, drop-set-lt}
use Rattle.std.proofs.lemmas.Bool.{both_ways, cases_eq, cases_lt}
use Rattle.search.specs.declared.lent.Cleared.{Cleared}
use Rattle.search.specs.declared.lent.List.{List as Places}
use Rattle.search.specs.Problem.{Problem, of_node}
use Rattle.search.specs.Queue.{blank, at, total, After, Sound, At, Open, Within, Queue, Grown, Struck, Went, Ready, Waiting, Stepped, Pushed, Lent}
use Rattle.search.specs.declared.breadth_first.Place.{Place}
use Rattle.search.proofs.Asked.{of_node_is}

pub total_le : (ts : List ℕ) (n : ℕ) → ((v : ℕ) → v < n → get_or ts v 0 ≤ 1) → total ts n ≤ n
total_le ts zero h = omega arith
total_le ts (suc n) h = omega (arith, h n (omega arith), total_le ts n (λ v l. h v (omega arith)))

total_lt : (ts : List ℕ) (n v : ℕ) → ((v : ℕ) → v < n → get_or ts v 0 ≤ 1) → v < n → get_or ts v 0 ≡ 0 → total ts n < n
total_lt ts zero v h l e = omega arith
total_lt ts (suc n) v h l e =
    ⊎_elim
    (λ (m : v ≡ n).
    let z : get_or ts n 0 ≡ 0 = subst (λ k. get_or ts k 0 ≡ 0) m e in
    omega (arith, total_le ts n (λ w k. h w (omega arith))))
    (λ (m : v ≡ n → ⊥).
    let l' : v < n = omega arith in
    omega (arith, h n (omega arith), total_lt ts n v (λ w k. h w (omega arith)) l' e))
    (cases_eq v n)

total_outside : (ts : List ℕ) (n v x : ℕ) → n ≤ v → total (set ts v x) n ≡ total ts n
total_outside ts zero v x l = refl
total_outside ts (suc n) v x l =
    let ne : n ≢ v = omega arith in
    omega (arith, get_or-set_other ts v n x 0 ne, total_outside ts n v x (omega arith))

pub total_set : (ts : List ℕ) (n v : ℕ) → v < n → v < length ts → get_or ts v 0 ≡ 0 → total (set ts v 1) n ≡ total ts n + 1
total_set ts zero v l k e = omega arith
total_set ts (suc n) v l k e =
    ⊎_elim
    (λ (m : v ≡ n).
    let z : get_or ts n 0 ≡ 0 = subst (λ k. get_or ts k 0 ≡ 0) m e in
    let o : get_or (set ts v 1) n 0 ≡ 1 = subst (λ k. get_or (set ts v 1) k 0 ≡ 1) m (get_or-set_same ts v 1 0 k) in
    omega (arith, total_outside ts n v 1 (omega arith)))
    (λ (m : v ≡ n → ⊥).
    let ne : n ≢ v = omega arith in
    let l' : v < n = omega arith in
    omega (arith, get_or-set_other ts v n 1 0 ne, total_set ts n v l' k e))
    (cases_eq v n)

-- one tick more, and each is still one at most
pub marks_set : (ts : List ℕ) (v w : ℕ) → v < length ts → get_or ts w 0 ≤ 1 → get_or (set ts v 1) w 0 ≤ 1
marks_set ts v w k l =
    ⊎_elim
    (λ (e : w ≡ v). subst (λ u. get_or (set ts v 1) u 0 ≤ 1) (sym e) (omega (arith, get_or-set_same ts v 1 0 k)))
    (λ (e : w ≡ v → ⊥). let ne : w ≢ v = e in omega (arith, get_or-set_other ts v w 1 0 ne, l))
    (cases_eq w v)

-- lists that are the same from some place on are so further on
pub drop_on : (m n : ℕ) (xs ys : List Place) → m ≤ n → drop m xs ≡ drop m ys → drop n xs ≡ drop n ys
drop_on m n xs ys l e =
    let k : m + (n - m) ≡ n = omega arith in
    subst (λ j. drop j xs ≡ drop j ys) k (sym (drop-drop (n - m) m xs) ∙ ap (drop (n - m)) e ∙ drop-drop (n - m) m ys)

-- there are never more places than nodes
pub used_le : (p : Problem) (ts : List ℕ) (ps : List Place) (used : ℕ) → Queue p ts ps used → used ≤ p.nodes
used_le p ts ps used q = omega (arith, q.counted, total_le ts p.nodes q.marks)

-- a sound place stays sound, further on too, where the places before it stay
pub sound_kept : (p : Problem) {ps ps' : List Place} {used i j : ℕ} {q : Place} → ((k : ℕ) → k < used → at ps' k ≡ at ps k) → i ≤ used → i ≤ j →
    Sound p ps i q → Sound p ps' j q
sound_kept p {q = q} same l m s =
    record {
      node = s.node;
      low = omega (arith, s.low);
      source = s.source;
      earlier = λ h. omega (arith, s.earlier h);
      after = λ h. subst (λ b. After p b q) (sym (same q.parent (omega (arith, s.earlier h)))) (s.after h);
    }

module _ (p : Problem) (ts : List ℕ) (ps : List Place) (used : ℕ) (q : Place) (r : Ready p ts ps used q.depth) (s : Sound p ps used q) (z : get_or ts q.node 0 ≡ 0) where
  -- a node that has no tick leaves room for its place
  pub room : used < p.nodes
  room = omega (arith, r.queue.counted, total_lt ts p.nodes q.node r.queue.marks s.node z)

  same : (i : ℕ) → i < used → at (set ps used q) i ≡ at ps i
  same i h =
      let ne : i ≢ used = omega arith in
      get_or-set_other ps used i q blank ne

  new : at (set ps used q) used ≡ q
  new = get_or-set_same ps used q blank (omega (arith, room, r.queue.fits.places))

  ticked : (v : ℕ) → (v ≡ q.node) ⊎ (get_or (set ts q.node 1) v 0 ≡ get_or ts v 0)
  ticked v = ⊎_elim (λ e. inl e) (λ (e : v ≡ q.node → ⊥). let ne : v ≢ q.node = e in inr (get_or-set_other ts q.node v 1 0 ne)) (cases_eq v q.node)

  marks : (v : ℕ) → v < p.nodes → get_or (set ts q.node 1) v 0 ≤ 1
  marks v l = marks_set ts q.node v (omega (arith, s.node, r.queue.fits.ticks)) (r.queue.marks v l)

  placed : (v : ℕ) → v < p.nodes → get_or (set ts q.node 1) v 0 ≡ 1 → (i : ℕ) × (i < used + 1) × ((at (set ps used q) i).node ≡ v)
  placed v l o =
      ⊎_elim
      (λ (e : v ≡ q.node). (used, omega arith, ap (λ (x : Place). x.node) new ∙ sym e))
      (λ (e : get_or (set ts q.node 1) v 0 ≡ get_or ts v 0). old (r.queue.placed v l (sym e ∙ o)))
      (ticked v)
    where
      old : ((i : ℕ) × (i < used) × ((at ps i).node ≡ v)) → (i : ℕ) × (i < used + 1) × ((at (set ps used q) i).node ≡ v)
      old w = (w.0, omega (arith, w.1), ap (λ (x : Place). x.node) (same w.0 w.1) ∙ w.2)

  still_ticked : (v : ℕ) → get_or ts v 0 ≡ 1 → get_or (set ts q.node 1) v 0 ≡ 1
  still_ticked v h = ⊎_elim (λ (e : v ≡ q.node). subst (λ x. get_or (set ts q.node 1) x 0 ≡ 1) (sym e) here) (λ (e : get_or (set ts q.node 1) v 0 ≡ get_or ts v 0). e ∙ h) (ticked v)
    where
      here : get_or (set ts q.node 1) q.node 0 ≡ 1
      here = get_or-set_same ts q.node 1 0 (omega (arith, s.node, r.queue.fits.ticks))

  all_ticked : (i : ℕ) → i < used + 1 → get_or (set ts q.node 1) (at (set ps used q) i).node 0 ≡ 1
  all_ticked i l =
      ⊎_elim
      (λ (h : i < used). subst (λ (x : Place). get_or (set ts q.node 1) x.node 0 ≡ 1) (sym (same i h)) (still_ticked (at ps i).node (r.queue.ticked i h)))
      (λ (h : used ≤ i).
      let e : used ≡ i = omega arith in
      subst (λ k. get_or (set ts q.node 1) (at (set ps used q) k).node 0 ≡ 1) e
      (subst (λ (x : Place). get_or (set ts q.node 1) x.node 0 ≡ 1) (sym new) (get_or-set_same ts q.node 1 0 (omega (arith, s.node, r.queue.fits.ticks)))))
      (cases_lt i used)

  sound : (i : ℕ) → i < used + 1 → Sound p (set ps used q) i (at (set ps used q) i)
  sound i l =
      ⊎_elim
      (λ (h : i < used). subst (λ x. Sound p (set ps used q) i x) (sym (same i h)) (sound_kept p same (omega arith) (omega arith) (r.queue.sound i h)))
      (λ (h : used ≤ i).
      let e : used ≡ i = omega arith in
      subst (λ k. Sound p (set ps used q) k (at (set ps used q) k)) e
      (subst (λ x. Sound p (set ps used q) used x) (sym new) (sound_kept p same (omega arith) (omega arith) s)))
      (cases_lt i used)

  depth_old : (i : ℕ) → i < used → (at (set ps used q) i).depth ≡ (at ps i).depth
  depth_old i h = ap (λ (x : Place). x.depth) (same i h)

  depth_new : (at (set ps used q) used).depth ≡ q.depth
  depth_new = ap (λ (x : Place). x.depth) new

  within_push : Within (set ps used q) (used + 1) q.depth
  within_push i l =
      ⊎_elim
      (λ (h : i < used). omega (arith, depth_old i h, r.within i h))
      (λ (h : used ≤ i).
      let e : used ≡ i = omega arith in
      subst (λ k. (at (set ps used q) k).depth ≤ q.depth) e (omega (arith, depth_new)))
      (cases_lt i used)

  rising : (i j : ℕ) → i ≤ j → j < used + 1 → (at (set ps used q) i).depth ≤ (at (set ps used q) j).depth
  rising i j l k =
      ⊎_elim
      (λ (h : j < used). omega (arith, depth_old i (omega arith), depth_old j h, r.queue.rising i j l h))
      (λ (h : used ≤ j).
      let e : used ≡ j = omega arith in
      subst (λ m. (at (set ps used q) i).depth ≤ (at (set ps used q) m).depth) e (omega (arith, depth_new, within_push i (omega arith))))
      (cases_lt j used)

  pushed : Grown p ts (set ts q.node 1) ps (set ps used q) used (used + 1)
  pushed =
      record {
        queue =
            record {
              small = r.queue.small;
              fits = record { ticks = simp length-set r.queue.fits.ticks; places = simp length-set r.queue.fits.places };
              marks = marks;
              counted = omega (arith, r.queue.counted, total_set ts p.nodes q.node s.node (omega (arith, s.node, r.queue.fits.ticks)) z);
              placed = placed;
              ticked = all_ticked;
              sound = sound;
              rising = rising;
            };
        sized = simp length-set;
        further = omega arith;
        same = same;
        beyond = drop-set-lt (used + 1) ps used q (omega arith);
      }

  -- the last place is the new one
  last : at (set ps used q) (used + 1 - 1) ≡ q
  last = let e : used + 1 - 1 ≡ used = omega arith in ap (λ i. at (set ps used q) i) e ∙ new

  struck_push : p.target q.node ≡ true → Struck p ts (set ts q.node 1) ps (set ps used q) used (used + 1) q.depth
  struck_push t =
      record {
        grown = pushed;
        some = omega arith;
        target = subst (λ (x : Place). p.target x.node ≡ true) (sym last) t;
        depth = ap (λ (x : Place). x.depth) last;
      }

  went_push : (p.target q.node ≡ true → ⊥) → Went p ts (set ts q.node 1) ps (set ps used q) used (used + 1) q.depth
  went_push t =
      record {
        grown = pushed;
        «open» = closed;
        within = within_push;
      }
    where
      closed : Open p (set ps used q) (used + 1)
      closed i l =
          ⊎_elim
          (λ (h : i < used). λ (e : p.target (at (set ps used q) i).node ≡ true). r.«open» i h (subst (λ (x : Place). p.target x.node ≡ true) (same i h) e))
          (λ (h : used ≤ i). λ (e : p.target (at (set ps used q) i).node ≡ true).
          let m : i ≡ used = omega arith in
          t (subst (λ (x : Place). p.target x.node ≡ true) (ap (λ k. at (set ps used q) k) m ∙ new) e))
          (cases_lt i used)

-- a visit: a tick, a push, and the question whether this is a target
pub stepped_push : (p : Problem) (t t' : Cleared) (l l' : Places Place) (q : Place) (hit : Bool) → Waiting p t l q.depth → Sound p l.items.now l.len q →
    get_or t.bytes.now q.node 0 ≡ 0 → t'.bytes.now ≡ set t.bytes.now q.node 1 → l'.items.now ≡ set l.items.now l.len q →
    l'.len ≡ l.len + 1 → hit ≡ of_node p p.target q.node → Stepped p t t' l l' q.depth hit
stepped_push p t t' l l' q true r s z e f h g =
    rw (e, f, h) (struck_push p t.bytes.now l.items.now l.len q r s z (sym (g ∙ of_node_is p q.node s.node p.target)))
stepped_push p t t' l l' q false r s z e f h g =
    rw (e, f, h) (went_push p t.bytes.now l.items.now l.len q r s z (both_ways _ (sym (g ∙ of_node_is p q.node s.node p.target))))

-- a visit writes its place behind the others
pub put_behind : (p : Problem) (t : Cleared) (l l' : Places Place) (q : Place) → Waiting p t l q.depth → Sound p l.items.now l.len q →
    get_or t.bytes.now q.node 0 ≡ 0 → l'.items.now ≡ set l.items.now l.len q → l'.len ≡ l.len + 1 → Pushed l l' q
put_behind p t l l' q r s z f h = (h, ap (λ ps. at ps l.len) f ∙ new p t.bytes.now l.items.now l.len q r s z)

-- a place that was used still is
pub at_kept : {ps ps' : List Place} {used more v d e : ℕ} → ((i : ℕ) → i < used → at ps' i ≡ at ps i) → used ≤ more → d ≤ e → At ps used v d → At ps' more v e
at_kept same l m x =
    let e = same x.index x.below in
    record {
      index = x.index;
      below = omega (arith, x.below);
      is = ap (λ (y : Place). y.node) e ∙ x.is;
      depth = omega (arith, ap (λ (y : Place). y.depth) e, x.depth);
    }

module _ (p : Problem) {t₀ t₁ : List ℕ} {s₀ s₁ : List Place} {a b : ℕ} (d : ℕ) where
  pub ready : Went p t₀ t₁ s₀ s₁ a b d → Ready p t₁ s₁ b d
  ready g = record { queue = g.grown.queue; «open» = g.«open»; within = g.within }

-- a queue that grows twice
pub grown_then : (p : Problem) {t₀ t₁ t₂ : List ℕ} {s₀ s₁ s₂ : List Place} {a b c : ℕ} → Grown p t₀ t₁ s₀ s₁ a b → Grown p t₁ t₂ s₁ s₂ b c → Grown p t₀ t₂ s₀ s₂ a c
grown_then p g h =
    record {
      queue = h.queue;
      sized = h.sized ∙ g.sized;
      further = omega (arith, g.further, h.further);
      same = λ i l. h.same i (omega (arith, g.further)) ∙ g.same i l;
      beyond = h.beyond ∙ drop_on _ _ _ _ h.further g.beyond;
    }

-- what a loop over nodes keeps: no target was met, on the same lent memory
abbrev pub Turn : Problem → Cleared → Cleared → Places Place → Places Place → ℕ → Type 0
Turn p t t' q q' d = Stepped p t t' q q' d false × Lent t t' q q'

pub lent_then : {a b c d e f : ℕ} → (b ≡ a) × (e ≡ d) → (c ≡ b) × (f ≡ e) → (c ≡ a) × (f ≡ d)
lent_then g h = (h.0 ∙ g.0, h.1 ∙ g.1)
