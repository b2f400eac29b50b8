-- The places that a loop over nodes pushes, while it goes on.
use Rattle.std.proofs.Common.{◌≡◌, ℕ, ◌+◌, ◌-◌, ◌<◌, ◌≤◌, Bool, true, false, not, ◌&&◌, eqb, ◌≢◌, List, get_or, Option, sym, refl, ap, ◌∙◌, subst, ⊎_elim, arith}
use Rattle.std.proofs.lemmas.Bool.{cases_lt}
use Rattle.std.proofs.lemmas.Bool.Decides.{nat_tests}
use Rattle.search.specs.declared.lent.Cleared.{Cleared}
use Rattle.search.specs.Problem.{Problem, FirstAt, outside, leads}
use Rattle.search.specs.Queue.{at, Open, Queue, Ticked, Child, Children, Born, Grown}
use Rattle.search.specs.declared.breadth_first.Place.{Place}

zero_from : (x : ℕ) (led set : Bool) → set ≡ not (eqb x 0) → (led && not set) ≡ true → x ≡ 0
zero_from x led set e f = grind (arith, nat_tests)

one_from : (x : ℕ) (led set : Bool) → set ≡ not (eqb x 0) → (led && not set) ≡ false → led ≡ true → x ≤ 1 → x ≡ 1
one_from x led set e f h l = grind (arith, nat_tests)

led_from : (led set : Bool) → (led && not set) ≡ true → led ≡ true
led_from true set e = refl
led_from false set e = e

module _ (p : Problem) (from : Option ℕ) (head d : ℕ) where
  -- the places pushed so far: below some bound none is missing
  pub record So (ps : List Place) (used more : ℕ) : Type 0 where
    pub bound : ℕ
    pub children : Children p from head d ps used more bound

  pub so_none : (ps : List Place) (used : ℕ) → So ps used used
  so_none ps used =
      record {
        bound = 0;
        children =
            record {
              each = λ i l m. absurd (omega arith);
              rising = λ i j l m k. absurd (omega arith);
              fresh = λ i j l m k. absurd (omega arith);
              all = λ v l. absurd (omega arith);
            };
      }

  -- the node v has a place
  abbrev Placed : List Place → ℕ → ℕ → Type 0
  Placed ps more v = (i : ℕ) × (i < more) × ((at ps i).node ≡ v)

  module _ {ps : List Place} {used more start : ℕ} (c : Children p from head d ps used more start) where
    -- no node is left
    children_end : ((i : ℕ) → i < more → (at ps i).node < p.nodes) → ((v : ℕ) → v < p.nodes → leads p from v ≡ true → Placed ps more v) → Children p from head d ps used more p.nodes
    children_end inside none =
        record {
          each = λ i l m. let x = c.each i l m in record { parent = x.parent; depth = x.depth; below = inside i m };
          rising = c.rising;
          fresh = c.fresh;
          all = none;
        }

    -- the next node gets a place
    module _ (ps' : List Place) (q : Place) (ahead : start ≤ q.node) (over : (u : ℕ) → u < q.node → leads p from u ≡ true → Placed ps more u) (parent : q.parent ≡ head) (depth : q.depth ≡ d) (further : used ≤ more)
        (same : (i : ℕ) → i < more → at ps' i ≡ at ps i) (new : at ps' more ≡ q) (none : (i : ℕ) → i < more → (at ps i).node ≢ q.node) where
      old_node : (i : ℕ) → i < more → (at ps' i).node ≡ (at ps i).node
      old_node i l = ap (λ (x : Place). x.node) (same i l)

      new_node : (i : ℕ) → more ≡ i → (at ps' i).node ≡ q.node
      new_node i e = ap (λ k. (at ps' k).node) (sym e) ∙ ap (λ (x : Place). x.node) new

      wider : (i : ℕ) → used ≤ i → i < more → Child head d (q.node + 1) (at ps i)
      wider i l m = let x = c.each i l m in record { parent = x.parent; depth = x.depth; below = omega (arith, x.below) }

      children_push : Children p from head d ps' used (more + 1) (q.node + 1)
      children_push =
          record {
            each = λ i l m.
                ⊎_elim
                (λ (h : i < more). subst (Child head d (q.node + 1)) (sym (same i h)) (wider i l h))
                (λ (h : more ≤ i).
                let e : more ≡ i = omega arith in
                subst (λ k. Child head d (q.node + 1) (at ps' k)) e (subst (Child head d (q.node + 1)) (sym new) (record { parent = parent; depth = depth; below = omega arith })))
                (cases_lt i more);
            rising = λ i j l m k.
                ⊎_elim
                (λ (h : j < more). omega (arith, old_node i (omega arith), old_node j h, c.rising i j l m h))
                (λ (h : more ≤ j).
                let b = c.each i l (omega arith) in
                omega (arith, old_node i (omega arith), new_node j (omega arith), b.below))
                (cases_lt j more);
            fresh = λ i j l m k e.
                ⊎_elim
                (λ (h : j < more). c.fresh i j l m h (sym (old_node i (omega arith)) ∙ e ∙ old_node j h))
                (λ (h : more ≤ j). none i (omega arith) (sym (old_node i (omega arith)) ∙ e ∙ new_node j (omega arith)))
                (cases_lt j more);
            all = λ u l e.
                ⊎_elim
                (λ (k : u < q.node). let w = over u k e in (w.0, omega (arith, w.1), old_node w.0 w.1 ∙ w.2))
                (λ (k : q.node ≤ u). let z : q.node ≡ u = omega arith in (more, omega arith, new_node more refl ∙ z))
                (cases_lt u q.node);
          }

  -- the set of the reached nodes holds those with a tick, and each of these has a place
  module _ (t : Cleared) (set : ℕ → Bool) {ps : List Place} {used more : ℕ} (same : Ticked p t set) (k : Queue p t.bytes.now ps more) (s : So ps used more) where
    has : (u : ℕ) → u < p.nodes → outside set (leads p from) u ≡ false → leads p from u ≡ true → Placed ps more u
    has u l o e = k.placed u l (one_from (get_or t.bytes.now u 0) (leads p from u) (set u) (same u l) o e (k.marks u l))

    -- no node outside the set is left
    pub so_all : ((v : ℕ) → 0 ≤ v → v < p.nodes → outside set (leads p from) v ≡ false) → Children p from head d ps used more p.nodes
    so_all none = children_end s.children (λ i l. (k.sound i l).node) (λ v l e. has v l (none v (omega arith) l) e)

    -- a visit of the first node outside the set
    module _ (t' : Cleared) {ps' : List Place} {more' : ℕ} (v : ℕ) (further : used ≤ more) (f : FirstAt (outside set (leads p from)) 0 p.nodes v) (g : Grown p t.bytes.now t'.bytes.now ps ps' more more')
        (one : (more' ≡ more + 1) × (at ps' more ≡ record { node = v; parent = head; depth = d })) where
      without : get_or t.bytes.now v 0 ≡ 0
      without = zero_from (get_or t.bytes.now v 0) (leads p from v) (set v) (same v f.below) f.passes

      none : (i : ℕ) → i < more → (at ps i).node ≢ v
      none i l e = omega (arith, without, k.ticked i l, ap (λ u. get_or t.bytes.now u 0) e)

      leading : leads p from v ≡ true
      leading = led_from (leads p from v) (set v) f.passes

      ahead : s.bound ≤ v
      ahead = ⊎_elim (λ (h : v < s.bound). let w = s.children.all v h leading in absurd (none w.0 w.1 w.2)) (λ (h : s.bound ≤ v). h) (cases_lt v s.bound)

      next_child : Children p from head d ps' used more' (v + 1)
      next_child =
          let q : Place = record { node = v; parent = head; depth = d } in
          subst (λ m. Children p from head d ps' used m (v + 1)) (sym one.0)
          (children_push s.children ps' q ahead (λ u h e. has u (omega (arith, h, f.below)) (f.before u (omega arith) h) e) refl refl further g.same one.1 none)

      pub so_more : So ps' used more'
      so_more = record { bound = v + 1; children = next_child }

      pub last_child : Open p ps more → Born p from head d ps' used more' true
      last_child o =
          let e : more ≡ more' - 1 = omega (arith, one.0) in
          let n : (at ps' (more' - 1)).node ≡ v = ap (λ i. (at ps' i).node) (sym e) ∙ ap (λ (x : Place). x.node) one.1 in (
            subst (λ u. Children p from head d ps' used more' (u + 1)) (sym n) next_child,
            λ i l t. let m : i < more = omega arith in o i m (subst (λ (x : Place). p.target x.node ≡ true) (g.same i m) t),
          )
