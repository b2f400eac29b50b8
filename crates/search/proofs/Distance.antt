-- Why a search ends with a shortest walk, or with none.
use Rattle.std.proofs.Common.{◌≡◌, ℕ, zero, suc, ◌+◌, ◌-◌, ◌<◌, ◌≤◌, Bool, true, List, length, get_or, replicate, Option, Some, None, false, sym, refl, ap, ◌∙◌, subst, ⊎_elim, add-one, arith}
use Rattle.std.proofs.lemmas.List.{length-replicate, get_or-replicate}
use Rattle.std.proofs.lemmas.Bool.{cases_eq, cases_lt}
use Rattle.search.specs.Problem.{Problem, leads, Way, Nowhere, Least}
use Rattle.search.specs.Problem.Walk.{stay, step}
use Rattle.search.specs.Queue.{at, total, Sound, At, Within, Grown, Struck, Went, Ready, Spread, Kept, Found, Fits, Born, Children, way_back}
use Rattle.search.specs.Trails.{Foremost}
use Rattle.search.proofs.Asked.{leads_on}
use Rattle.search.proofs.Trails.{back_trail}
use Rattle.search.proofs.Order.{reach, before_head, order_on, order_start, foremost_on}
use Rattle.search.specs.declared.breadth_first.Place.{Place}
use Rattle.search.proofs.Frontier.{used_le, at_kept, drop_on}

-- the parents lead back along a walk
way_below : (p : Problem) (ps : List Place) (last n i : ℕ) → ((i : ℕ) → i ≤ last → Sound p ps i (at ps i)) → i < n → i ≤ last →
    Way p (at ps i).node (at ps i).depth
way_below p ps last zero i s l m = absurd (omega arith)
way_below p ps last (suc n) i s l m =
    ⊎_elim
    (λ (e : (at ps i).depth ≡ 0).
    subst (λ k. Way p (at ps i).node k) (sym e)
    (record { start = (at ps i).node; begins = (s i m).source e; walk = stay (s i m).node }))
    (λ (e : (at ps i).depth ≡ 0 → ⊥).
    let h : 0 < (at ps i).depth = omega arith in
    let w = way_below p ps last n (at ps i).parent s (omega (arith, (s i m).earlier h)) (omega (arith, (s i m).earlier h)) in
    subst (λ k. Way p (at ps i).node k) (sym (((s i m).after h).depth ∙ add-one _))
    (record { start = w.start; begins = w.begins; walk = step w.walk (s i m).node ((s i m).after h).edge }))
    (cases_eq (at ps i).depth 0)

module _ (p : Problem) (ts : List ℕ) (ps : List Place) (used head : ℕ) (s : Spread p ts ps used head) where
  met : (b k : ℕ) → p.target b ≡ true → At ps used b k → ⊥
  met b k t x = s.«open» x.index x.below (subst (λ v. p.target v ≡ true) (sym x.is) t)

  pub nowhere : used ≤ head → Nowhere p
  nowhere l b k t w = met b k t (reach p ts ps used head s k w.start (λ i m _. omega arith) w.begins b k w.walk (omega arith))

  least : head < used → Least p ((at ps head).depth + 1)
  least l b k t w =
      ⊎_elim
      (λ (m : (at ps head).depth < k). omega arith)
      (λ (m : k ≤ (at ps head).depth).
      absurd (met b k t (reach p ts ps used head s (at ps head).depth w.start (before_head p ts ps used head s) w.begins b k w.walk m)))
      (cases_lt (at ps head).depth k)

-- the nodes to which `from` leads have places
covered : {p : Problem} {from : Option ℕ} {ps : List Place} {head d used more : ℕ} → Children p from head d ps used more p.nodes → Within ps more d →
    (v : ℕ) → v < p.nodes → leads p from v ≡ true → At ps more v d
covered ch w v l e = let x = ch.all v l e in record { index = x.0; below = x.1; is = x.2; depth = w x.0 x.1 }

-- a scan of the place `head`
spread_on : (p : Problem) {ts ts' : List ℕ} {ps ps' : List Place} {used more head : ℕ} → Spread p ts ps used head → head < used →
    Went p ts ts' ps ps' used more ((at ps head).depth + 1) →
    Children p (Some (at ps head).node) head ((at ps head).depth + 1) ps' used more p.nodes → Spread p ts' ps' more (head + 1)
spread_on p {ts} {ts'} {ps} {ps'} {used} {more} {head} s l w ch =
    let same = w.grown.same in
    let further = w.grown.further in
    record {
      queue = w.grown.queue;
      «open» = w.«open»;
      within = λ m i k. omega (arith, w.within i k, w.grown.queue.rising head (head + 1) (omega arith) m, ap (λ (y : Place). y.depth) (same head l));
      reached = omega arith;
      sources = λ v m e. at_kept same further (omega arith) (s.sources v m e);
      scanned = λ i m v k e.
          ⊎_elim
          (λ (h : i < head).
          let q = same i (omega arith) in
          at_kept same further (omega (arith, ap (λ (y : Place). y.depth) q))
          (s.scanned i h v k (subst (λ (y : Place). p.edge y.node v ≡ true) q e)))
          (λ (h : head ≤ i).
          let j : i ≡ head = omega arith in
          let q : at ps' i ≡ at ps head = ap (λ x. at ps' x) j ∙ same head l in
          let c = covered ch w.within v k (subst (λ (t : ℕ → Bool). t v ≡ true) (sym (leads_on p (at ps head).node (s.queue.sound head l).node)) (subst (λ (y : Place). p.edge y.node v ≡ true) q e)) in
          record { index = c.index; below = c.below; is = c.is; depth = omega (arith, c.depth, ap (λ (y : Place). y.depth) q) })
          (cases_lt i head);
      ordered = order_on p s l w.grown ch;
    }

-- a search that met a target at the least depth has found it
pub found : (p : Problem) {ts ts' : List ℕ} {ps ps' : List Place} {used more d : ℕ} → Struck p ts ts' ps ps' used more d → Least p d →
    Foremost p (way_back ps' (more - 1)) → (0 < more) × Found p ps' (more - 1)
found p {ps' = ps'} {more = more} s l f = (
  s.some,
  record {
    below = omega (arith, used_le _ _ _ _ s.grown.queue, s.some);
    target = s.target;
    sound = sound;
    way = way_below p ps' (more - 1) more (more - 1) sound (omega (arith, s.some)) (omega arith);
    least = subst (λ n. Least p n) (sym s.depth) l;
    trail = back_trail p ps' more s.grown.queue.sound (at ps' (more - 1)).depth (more - 1) (omega (arith, s.some)) refl;
    first = f;
  },
)
  where
    sound : (i : ℕ) → i ≤ more - 1 → Sound p ps' i (at ps' i)
    sound i m = s.grown.queue.sound i (omega (arith, s.some))

-- the same, where the place is known by another name
module _ (p : Problem) {ts ts' : List ℕ} {ps ps' : List Place} {used more head : ℕ} {from : Place} (s : Spread p ts ps used head) (l : head < used) (e : at ps head ≡ from) where
  pub spread_more : Went p ts ts' ps ps' used more (from.depth + 1) → Born p (Some from.node) head (from.depth + 1) ps' used more false → Spread p ts' ps' more (head + 1)
  spread_more w b =
      spread_on p s l (subst (λ (x : Place). Went p ts ts' ps ps' used more (x.depth + 1)) (sym e) w)
      (subst (λ (x : Place). Born p (Some x.node) head (x.depth + 1) ps' used more false) (sym e) b)

  pub found_next : Struck p ts ts' ps ps' used more (from.depth + 1) → Born p (Some from.node) head (from.depth + 1) ps' used more true → (0 < more) × Found p ps' (more - 1)
  found_next w b =
      found p w (subst (λ (x : Place). Least p (x.depth + 1)) e (least p ts ps used head s l))
      (foremost_on p s l (subst (λ (x : Place). Struck p ts ts' ps ps' used more (x.depth + 1)) (sym e) w) (subst (λ (x : Place). Born p (Some x.node) head (x.depth + 1) ps' used more true) (sym e) b))

-- no more than the first `nodes` places are written
pub kept : (p : Problem) {ts ts' : List ℕ} {ps ps' : List Place} {used more : ℕ} → Grown p ts ts' ps ps' used more → Kept p ps ps'
kept p g = drop_on _ _ _ _ (used_le _ _ _ _ g.queue) g.beyond

pub total_none : (ts : List ℕ) (n : ℕ) → ((v : ℕ) → v < n → get_or ts v 0 ≡ 0) → total ts n ≡ 0
total_none ts zero h = refl
total_none ts (suc n) h = omega (arith, h n (omega arith), total_none ts n (λ v l. h v (omega arith)))

-- no tick, no place
pub ready_none : (p : Problem) (ts : List ℕ) (ps : List Place) (used n : ℕ) → used ≡ 0 → p.nodes < 65536 → Fits p ts ps → ts ≡ replicate n 0 →
    Ready p ts ps used 0
ready_none p ts ps used n z a b e =
    record {
      queue =
          record {
            small = a;
            fits = b;
            marks = λ v l. omega (arith, none v l);
            counted = z ∙ sym (total_none ts p.nodes none);
            placed = λ v l o. absurd (omega (arith, none v l));
            ticked = λ i l. absurd (omega arith);
            sound = λ i l. absurd (omega arith);
            rising = λ i j l m. absurd (omega arith);
          };
      «open» = λ i l. absurd (omega arith);
      within = λ i l. absurd (omega arith);
    }
  where
    none : (v : ℕ) → v < p.nodes → get_or ts v 0 ≡ 0
    none v l = ap (λ xs. get_or xs v 0) e ∙ get_or-replicate {A = ℕ} n v 0 0 (omega (arith, b.ticks, ap length e, length-replicate {A = ℕ} n 0))

-- once the sources are pushed the scan may begin
pub spread_none : (p : Problem) {ts ts' : List ℕ} {ps ps' : List Place} {used more : ℕ} →
    used ≡ 0 → Went p ts ts' ps ps' used more 0 → Born p None 0 0 ps' used more false → Spread p ts' ps' more 0
spread_none p z w b =
    record {
      queue = w.grown.queue;
      «open» = w.«open»;
      within = λ l i m. omega (arith, w.within i m);
      reached = omega arith;
      sources = covered b w.within;
      scanned = λ i l. absurd (omega arith);
      ordered = order_start p z w.grown b;
    }
