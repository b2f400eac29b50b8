-- What is traced along a way through the graph shows an activity of the kind.
use Rattle.std.proofs.Common.{◌≡◌, ℕ, zero, suc, ◌+◌, ◌-◌, ◌<◌, ◌≤◌, Bool, true, false, T, List, ◌++◌, length, get_or, sym, refl, ap, ◌∙◌, subst, subst₂, arith, length-append}
use Rattle.access.specs.Policy.{Meaning}
use Rattle.access.specs.Sound.{Sound}
use Rattle.verdicts.specs.Runs.{Grants}
use Rattle.verdicts.specs.Activities.{Move, Chain}
use Rattle.verdicts.specs.Searches.{Search}
use Rattle.verdicts.specs.Verdicts.{Pairwise, AtLeast, AsStep}
use Rattle.verdicts.specs.First.{along_way, FirstOf}
use Rattle.verdicts.proofs.Agreement.{same_length, shown_realised}
use Rattle.verdicts.proofs.Exists.{shown_by}
use Rattle.judge.specs.declared.step.Step.{Step}
use Rattle.judge.specs.Moved.{stepped}
use Rattle.judge.specs.Kinds.{Early, here, on, last_move, turned, Going, KindLaws}
use Rattle.judge.specs.Nodes.{phase, context, move_of, slot}
use Rattle.judge.specs.Traced.{blank, Shows, Traced}
use Rattle.judge.specs.Found.{Leads, first_steps, Found}
use Rattle.judge.proofs.GoingWalks.{turned_length}
use Rattle.judge.proofs.Inside.{short_activity}
use Rattle.judge.proofs.Tables.{tab, length_tab, tab_parts, reverse_tab, chain_tab, pairwise_two}
use Rattle.judge.proofs.Slots.{slot_front, slot_back}

-- moves in the first of two phases
early_tab : (kind : Search) → kind.phases ≤ 2 → (c p : ℕ → ℕ) (k : ℕ) → ((d : ℕ) → d < k → suc (p (suc d)) < kind.phases) → Early kind 0 (c 0) (c k) (tab (λ j. kind.move (p (suc j)) (c j) (c (suc j))) k)
early_tab kind few c p zero h = here
early_tab kind few c p (suc k) h =
    let z : 0 ≡ p 1 = omega (arith, h 0 (omega arith)) in
    on (c 0) (omega arith) (h 0 (omega arith)) (subst (λ q. Early kind q (c 1) (c (suc k)) (tab (λ j. kind.move (p (suc (suc j))) (c (suc j)) (c (suc (suc j)))) k)) z (early_tab kind few (λ j. c (suc j)) (λ j. p (suc j)) k (λ d b. h (suc d) (omega arith))))

module _ (m : Meaning) (gs : Grants) {kind : Search} {back : Bool} {activities : ℕ → ℕ → List Move → Type 0} (laws : KindLaws kind back activities) (way : ℕ → ℕ) (k : ℕ) (ss : List Step) (t : Traced kind m gs back way k ss) where
  abbrev c : ℕ → ℕ
  c d = context m.contexts (way d)

  abbrev u : ℕ
  u = t.turn

  abbrev front : List Move
  front = tab (λ j. move_of kind m.contexts (way j) (way (suc j))) u

  abbrev late_at : ℕ → Move
  late_at j = last_move kind (c (u + j)) (c (u + suc j))

  abbrev rest : List Move
  rest = tab late_at (k - u)

  -- the activity that is traced, in working order
  abbrev pub traced : List Move
  traced = front ++ turned back rest

  -- the moves along the way, one from each depth
  abbrev pub walked : List Move
  walked = tab (λ j. move_of kind m.contexts (way j) (way (suc j))) k

  walked_parts : walked ≡ front ++ rest
  walked_parts =
      tab_parts (λ j. move_of kind m.contexts (way j) (way (suc j))) late_at u (k - u) k (omega (arith, t.turned.within)) (λ j i b e.
      let d : suc i ≡ u + suc j = omega arith in
      let p : phase m.contexts (way (u + suc j)) ≡ kind.phases - 1 = subst (λ x. phase m.contexts (way x) ≡ kind.phases - 1) d (omega (arith, t.turned.late i (omega arith) (omega arith))) in
      cc (e, d, p))

  going : Going kind back (c 0) (c k) (front ++ turned back rest)
  going =
      let e : u + 0 ≡ u = omega arith in
      let f : u + (k - u) ≡ k = omega (arith, t.turned.within) in
      record {
        via = c u;
        front = front;
        rest = rest;
        early = early_tab kind laws.few c (λ d. phase m.contexts (way d)) u t.turned.early;
        late = subst₂ (λ a b. Chain (last_move kind) (c a) (c b) rest) e f (chain_tab (last_move kind) (λ j. c (u + j)) (k - u));
        order = refl;
      }

  pub traced_along : along_way back traced ≡ walked
  unfolding going
  traced_along = (laws.way.turns going.early going.late).0 ∙ sym walked_parts

  pub traced_back : traced ≡ along_way back walked
  unfolding going
  traced_back = sym (laws.way.turns going.early going.late).1 ∙ ap (along_way back) (sym walked_parts)

  pub counted : length (front ++ turned back rest) ≡ k
  counted = omega (arith, length-append front (turned back rest), length_tab (λ j. move_of kind m.contexts (way j) (way (suc j))) u, turned_length back rest, length_tab late_at (k - u), t.turned.within)

  front_slot : (b : Bool) (j : ℕ) → j < u → slot b u k j ≡ j
  front_slot true j h = slot_front u k j h
  front_slot false j h = refl

  front_shown : (j : ℕ) → j < u → Shows m gs (move_of kind m.contexts (way j) (way (suc j))) (get_or ss j blank)
  front_shown j h = subst (λ i. Shows m gs (move_of kind m.contexts (way j) (way (suc j))) (get_or ss i blank)) (front_slot back j h) (t.shown j (omega arith) (omega (arith, t.turned.within)))

  late_shown : (j i : ℕ) → j < k - u → slot back u k (u + j) ≡ i → Shows m gs (late_at j) (get_or ss i blank)
  late_shown j i h s =
      let d : u ≤ u + j = omega arith in
      let b : u + j < k = omega arith in
      let p : phase m.contexts (way (suc (u + j))) ≡ kind.phases - 1 = omega (arith, t.turned.late (u + j) d b) in
      let e : suc (u + j) ≡ u + suc j = omega arith in
      subst₂ (λ x y. Shows m gs (last_move kind (c (u + j)) (c x)) (get_or ss y blank)) e s
      (subst (λ q. Shows m gs (kind.move q (c (u + j)) (c (suc (u + j)))) (get_or ss (slot back u k (u + j)) blank)) p (t.shown (u + j) (omega arith) b))

  module _ (fits : k ≤ length ss) where
    abbrev Paired : List Move → Type 0
    Paired ms = Pairwise (AsStep m gs) ms (first_steps k ss)

    pair : (f : ℕ → Move) → ((j i : ℕ) → j < k - u → i ≡ u + j → Shows m gs (f j) (get_or ss i blank)) → Paired (front ++ tab f (k - u))
    pair f h = pairwise_two (AsStep m gs) stepped blank (λ j. move_of kind m.contexts (way j) (way (suc j))) f u (k - u) k (omega (arith, t.turned.within)) ss fits front_shown h

    paired : Paired (front ++ turned back rest)
    paired = go back refl
      where
        go : (b : Bool) → back ≡ b → Paired (front ++ turned b rest)
        go false e = pair late_at (λ j i h q. late_shown j i h (ap (λ x. slot x u k (u + j)) e ∙ sym q))
        go true e =
            subst (λ xs. Paired (front ++ xs)) (sym (reverse_tab late_at (k - u)))
            (pair (λ j. late_at (k - u - suc j)) (λ j i h q.
            late_shown (k - u - suc j) i (omega arith) (ap (λ x. slot x u k (u + (k - u - suc j))) e ∙ slot_back u k (u + (k - u - suc j)) (omega arith) ∙ omega arith)))

    -- the first k steps show the first of the shortest, where that is the activity along this way
    pub traced_found : Sound m → (A B : ℕ → Bool) → T (A (context m.contexts (way 0))) → T (B (context m.contexts (way k))) → AtLeast m gs (Leads activities A B) k → FirstOf m gs (Leads activities A B) back traced → Found m gs (Leads activities A B) back ss k
    traced_found l A B begins ends least first =
        let act : activities (c 0) (c k) traced = (laws.ways (c 0) (c k) traced).1 going in
        let sought : Leads activities A B traced = record { from = c 0; to = c k; from_in = begins; to_in = ends; holds = act } in
        let n : length (first_steps k ss) ≡ k = sym (same_length paired) ∙ counted in
        let shown = shown_by m gs {Sought = Leads activities A B} sought paired (λ ms h r. omega (arith, n, least ms h r)) in
        let s = short_activity m gs l laws (c 0) (c k) traced act (shown_realised m gs shown) in
        record {
          first = record { shown = shown; first = first };
          count = n;
          few = omega (arith, least s.2.moves (record { from = c 0; to = c k; from_in = begins; to_in = ends; holds = s.2.activity }) s.2.realises, s.2.count, s.1);
        }
