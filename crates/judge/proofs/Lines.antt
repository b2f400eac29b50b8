-- The way back from a place that a search found is a way through the graph.
use Rattle.std.proofs.Common.{◌≡◌, ℕ, zero, suc, ◌+◌, ◌-◌, ◌/◌, ◌<◌, ◌≤◌, Bool, true, ◌⊎◌, List, sym, ap, ◌∙◌, subst, ⊎_elim, arith}
use Rattle.std.proofs.lemmas.Bool.{and_parts, leb-true}
use Rattle.std.proofs.lemmas.Nat.{div_below}
use Rattle.search.specs.Problem.{Problem}
use Rattle.search.specs.Queue.{at, Sound as SoundPlace}
use Rattle.search.specs.declared.breadth_first.Place.{Place}
use Rattle.access.specs.Policy.{Meaning}
use Rattle.access.specs.Sound.{Sound as SoundMeaning}
use Rattle.verdicts.specs.Runs.{Grants}
use Rattle.verdicts.specs.Searches.{Search}
use Rattle.judge.specs.Plan.{plan, up, line}
use Rattle.judge.specs.Traced.{Turned}

-- `here` is the place at depth `left` on the way to the place `last`
pub record Climb (ps : List Place) (last here left : ℕ) : Type 0 where
  pub below : here ≤ last
  pub within : left ≤ (at ps last).depth
  pub place : here ≡ up ps last ((at ps last).depth - left)

module _ (p : Problem) (ps : List Place) (last : ℕ) (sound : (i : ℕ) → i ≤ last → SoundPlace p ps i (at ps i)) where
  abbrev k : ℕ
  k = (at ps last).depth

  pub climbed : (i : ℕ) → i ≤ k → (up ps last i ≤ last) × ((at ps (up ps last i)).depth + i ≡ k)
  climbed zero h = (omega arith, omega arith)
  climbed (suc i) h =
      let r = climbed i (omega arith) in
      let s = sound (up ps last i) r.0 in
      let deep : 0 < (at ps (up ps last i)).depth = omega arith in
      (omega (arith, s.earlier deep), omega (arith, (s.after deep).depth))

  pub inside : (d : ℕ) → d ≤ k → line ps last d < p.nodes
  inside d h = (sound (up ps last (k - d)) (climbed (k - d) (omega arith)).0).node

  pub joins : (d : ℕ) → d < k → p.edge (line ps last d) (line ps last (suc d)) ≡ true
  joins d h =
      let i = k - suc d in
      let r = climbed (k - suc d) (omega arith) in
      let s = sound (up ps last (k - suc d)) r.0 in
      let e : suc (k - suc d) ≡ k - d = omega arith in
      subst (λ j. p.edge (at ps (up ps last j)).node (line ps last (suc d)) ≡ true) e (s.after (omega arith)).edge

  pub begins : p.source (line ps last 0) ≡ true
  begins = let r = climbed (k - 0) (omega arith) in (sound (up ps last (k - 0)) r.0).source (omega arith)

  pub ends : p.target (at ps last).node ≡ true → p.target (line ps last k) ≡ true
  ends target = let e : 0 ≡ k - k = omega arith in subst (λ j. p.target (at ps (up ps last j)).node ≡ true) e target

  -- one place back
  pub record Back (here left : ℕ) : Type 0 where
    pub climb : Climb ps last (at ps here).parent (left - 1)
    pub earlier : (at ps here).parent < here
    pub node : (at ps here).node ≡ line ps last (suc (left - 1))
    pub before : (at ps (at ps here).parent).node ≡ line ps last (left - 1)

  pub back : {here left : ℕ} → Climb ps last here left → 0 < left → Back here left
  back {here} {left} c pos =
      let r = climbed (k - left) (omega arith) in
      let g : suc (k - left) ≡ k - (left - 1) = omega (arith, c.within) in
      let g' : left ≡ suc (left - 1) = omega arith in
      let deep : 0 < (at ps here).depth = subst (λ x. 0 < (at ps x).depth) (sym c.place) (omega (arith, c.within)) in
      let earlier = (sound here c.below).earlier deep in
      let q : (at ps here).parent ≡ up ps last (k - (left - 1)) = ap (λ x. (at ps x).parent) c.place ∙ ap (up ps last) g in
      record {
        climb = record { below = omega (arith, earlier, c.below); within = omega (arith, c.within); place = q };
        earlier = earlier;
        node = ap (λ x. (at ps x).node) c.place ∙ ap (line ps last) g';
        before = ap (λ x. (at ps x).node) q;
      }

-- in the graph of an activity phases rise along the way
module _ (kind : Search) (m : Meaning) (gs : Grants) (A B : ℕ → Bool) (l : SoundMeaning m) (ps : List Place) (last : ℕ) (sound : (i : ℕ) → i ≤ last → SoundPlace (plan kind m gs A B) ps i (at ps i)) where
  abbrev n : ℕ
  n = m.contexts

  abbrev x : ℕ → ℕ
  x = line ps last

  abbrev all : ℕ
  all = (at ps last).depth

  rise : (d : ℕ) → d < all → x d / n ≤ x (suc d) / n
  rise d h = leb-true (x d / n) (x (suc d) / n) (and_parts _ _ (joins (plan kind m gs A B) ps last sound d h)).0

  rises : (e d : ℕ) → d + e ≤ all → x d / n ≤ x (d + e) / n
  rises zero d h = let o : d ≡ d + 0 = omega arith in subst (λ j. x d / n ≤ x j / n) o (omega arith)
  rises (suc e) d h =
      let o : suc (d + e) ≡ d + suc e = omega arith in
      let r = rises e d (omega arith) in
      subst (λ j. x d / n ≤ x j / n) o (omega (arith, rise (d + e) (omega arith)))

  pub turned : (t : ℕ) → t ≤ all → ((d : ℕ) → t ≤ d → d < all → suc (x (suc d) / n) ≡ kind.phases) → (t ≡ 0) ⊎ (suc (x t / n) ≡ kind.phases → ⊥) → Turned kind n x all t
  turned t h late stop =
      record {
        within = h;
        early = λ d b.
            let o : suc d + (t - suc d) ≡ t = omega arith in
            let r = subst (λ j. x (suc d) / n ≤ x j / n) o (rises (t - suc d) (suc d) (omega arith)) in
            let q = div_below (x t) n kind.phases l.a_context (inside (plan kind m gs A B) ps last sound t h) in
            ⊎_elim (λ z. omega arith) (λ z. ne (x (suc d) / n) (x t / n) kind.phases r q z) stop;
        late = late;
      }
    where
      ne : (a b c : ℕ) → a ≤ b → b < c → (suc b ≡ c → ⊥) → suc a < c
      ne a b c h q z = omega arith
