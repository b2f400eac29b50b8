-- The two loops that go back over the places.
use Rattle.std.proofs.Common.{◌≡◌, ℕ, suc, ◌+◌, ◌-◌, ◌<◌, ◌≤◌, Bool, true, List, length, set, sym, ap, ◌∙◌, subst, subst₂, ◌⊎◌, inl, inr, ⊎_elim, arith}
use Rattle.std.proofs.lemmas.Bool.{cases_eq}
use Rattle.std.proofs.Math.Logic.{∥∥₁_elim}
use Rattle.std.proofs.Props.{props}
use Rattle.search.specs.Queue.{at, Sound}
use Rattle.search.specs.declared.breadth_first.Place.{Place}
use Rattle.access.specs.Contexts.{member}
use Rattle.access.specs.declared.policy.Policy.{Ghosts as Policy}
use Rattle.access.specs.Policy.{Meaning}
use Rattle.access.specs.Sound.{Sound as SoundMeaning}
use Rattle.verdicts.specs.Runs.{Grants}
use Rattle.verdicts.specs.Searches.{Search}
use Rattle.judge.specs.Regimes.{meaning_of, grants_of}
use Rattle.judge.specs.declared.step.Step.{Step}
use Rattle.judge.specs.Plan.{line}
use Rattle.judge.specs.Charts.{problem_of}
use Rattle.judge.specs.declared.way.Way.{Way}
use Rattle.judge.specs.declared.activity.Activity.{Ghosts as Activity}
use Rattle.judge.specs.Nodes.{phase, edge, move_of, slot}
use Rattle.judge.specs.Traced.{Turned, Shows, ShownFrom, SameFrom}
use Rattle.judge.proofs.Lines.{Climb, back, joins, turned}
use Rattle.judge.proofs.Slots.{shown_more, same_more}

module _ {X P : Type 0} {A : Activity X} {B : Policy P} (way : Way X P A B) where
  abbrev kind : Search
  kind = A.kind

  abbrev ps : List Place
  ps = way.places.now

  abbrev last : ℕ
  last = way.last

  abbrev m : Meaning
  m = meaning_of B.meaning way.chart.now.moves.now.regime

  abbrev gs : Grants
  gs = grants_of way.chart.now.moves.now.regime

  abbrev n : ℕ
  n = m.contexts

  abbrev k : ℕ
  k = (at ps last).depth

  abbrev Node : ℕ → ℕ
  Node place = (at ps place).node

  sound : (i : ℕ) → i ≤ last → Sound (problem_of way.chart.now) ps i (at ps i)
  sound = ∥∥₁_elim way.found (hlevel props) (λ f. f.sound)

  -- from the place `here`, at depth `left`, on the way is in the last phase
  pub record Turning (here left : ℕ) : Type 0 where
    pub climb : Climb ps last here left
    pub late : (d : ℕ) → left ≤ d → d < k → suc (phase n (line ps last (suc d))) ≡ kind.phases

  pub turn_again : (here left : ℕ) → Turning here left → 0 < left → phase n (Node here) + 1 ≡ kind.phases → (next : ℕ) → next ≡ (at ps here).parent → Turning next (left - 1)
  turn_again here left t pos test next e =
      let b = back _ ps last sound t.climb pos in
      record {
        climb = subst (λ x. Climb ps last x (left - 1)) (sym e) b.climb;
        late = λ d l h.
            ⊎_elim
            (λ (q : d ≡ left - 1). subst (λ j. suc (phase n (line ps last (suc j))) ≡ kind.phases) (sym q) (subst (λ x. suc (phase n x) ≡ kind.phases) b.node (omega arith)))
            (λ (q : d ≡ left - 1 → ⊥). t.late d (omega arith) h)
            (cases_eq d (left - 1));
      }

  pub turn_done : SoundMeaning m → (here left : ℕ) → Turning here left → (left ≡ 0) ⊎ (phase n (Node here) + 1 ≡ kind.phases → ⊥) → (turn : ℕ) → turn ≡ left → Turned kind n (line ps last) k turn
  turn_done l here left t stop turn e =
      subst (Turned kind n (line ps last) k) (sym e)
      (turned kind m gs (member way.chart.now.from) (member way.chart.now.to) l ps last sound left t.climb.within t.late
      (⊎_elim inl (λ other. inr (λ q. other (let g : line ps last left ≡ Node here = ap Node (sym t.climb.place) in subst (λ x. phase n x + 1 ≡ kind.phases) g (omega arith)))) stop))

  module _ (here left : ℕ) (c : Climb ps last here left) (pos : 0 < left) (next : ℕ) (e : next ≡ (at ps here).parent) where
    pub next_climb : Climb ps last next (left - 1)
    next_climb = subst (λ x. Climb ps last x (left - 1)) (sym e) (back _ ps last sound c pos).climb

    pub next_below : next < last
    next_below = omega (arith, (back _ ps last sound c pos).earlier, c.below)

    next_node : Node next ≡ line ps last (left - 1)
    next_node = ap Node e ∙ (back _ ps last sound c pos).before

    pub joined : edge kind m gs (Node next) (Node here) ≡ true
    joined = subst₂ (λ u v. edge kind m gs u v ≡ true) (sym next_node) (sym (back _ ps last sound c pos).node) (joins _ ps last sound (left - 1) (omega (arith, c.within)))

    -- one more step is written
    module _ (turning : Bool) (t : ℕ) (h : t ≤ k) (ss : List Step) (fits : k ≤ length ss) (s : Step) where
      abbrev Written : List Step → Type 0
      Written ss' = (i : ℕ) × (i ≡ slot turning t k (left - 1)) × (ss' ≡ set ss i s)

      written : {ss' : List Step} → Written ss' → ss' ≡ set ss (slot turning t k (left - 1)) s
      written w = w.2 ∙ ap (λ i. set ss i s) w.1

      pub trace_again : ShownFrom kind m gs turning (line ps last) t k left ss → Shows m gs (move_of kind n (Node next) (Node here)) s → (ss' : List Step) → Written ss' → ShownFrom kind m gs turning (line ps last) t k (left - 1) ss'
      trace_again shown w ss' is =
          let g : left ≡ suc (left - 1) = omega arith in
          let w' = subst₂ (λ u v. Shows m gs (move_of kind n u v) s) next_node (back _ ps last sound c pos).node w in
          subst (ShownFrom kind m gs turning (line ps last) t k (left - 1)) (sym (written is))
          (shown_more kind m gs turning (line ps last) t k (left - 1) ss h (omega (arith, c.within)) fits s w' (subst (λ j. ShownFrom kind m gs turning (line ps last) t k j ss) g shown))

      pub trace_keeps : (ss₀ : List Step) → SameFrom k ss₀ ss → (ss' : List Step) → Written ss' → SameFrom k ss₀ ss'
      trace_keeps ss₀ same ss' is =
          subst (SameFrom k ss₀) (sym (written is)) (same_more kind m gs turning (line ps last) t k (left - 1) ss h (omega (arith, c.within)) fits s ss₀ same)
