-- Every move that can be made is shown by some interaction, and every possible interaction has an origin: a property of
-- which a forbidden activity is realised is broken in the least number of moves, with steps.
use Rattle.std.proofs.Common.{ℕ, ◌≤◌, T, eqb, List, [], ◌∷◌, map, length, sym, refl, subst, inl, inr, ⊎_elim, arith, T_not}
use lib.Bits.{bit_or}
use Rattle.std.specs.List.{AllByRecursion}
use Rattle.access.specs.Operations.{has, read_op, write_op, become_op, any_op, write_like}
use Rattle.access.specs.Policy.{Meaning, Interaction}
use Rattle.verdicts.specs.Runs.{Grants}
use Rattle.verdicts.specs.Activities.{Move, transition, transfer, contact, Property, Forbids}
use Rattle.verdicts.specs.Possible.{granted, possible, Can, CanMake, some_op}
use Rattle.verdicts.specs.Verdicts.{Pairwise, none, also, Realises, Step, Possible, Shown, Origin, AsStep, AtLeast, ShortestShown, Broken}
use Rattle.access.proofs.Bits.{has_some}
use Rattle.access.proofs.Tests.{either_part, cases_test}
use Rattle.verdicts.proofs.Reduction.{reduction, or_has, and_has, granting}
use Rattle.verdicts.proofs.Moves.{some_op_found, made, realised}
use Rattle.verdicts.proofs.Agreement.{same_length}
use Rattle.verdicts.proofs.Decided.{given_test, given_found, given_from}
use Rattle.verdicts.proofs.Lowest.{least_from, lowest_exists}

module _ (m : Meaning) (gs : Grants) where
  pub shown_exists : (v : Move) → CanMake m gs v → (i : Interaction) × Shown m gs v i
  shown_exists (transition c d) h = let r = some_op_found become_op (possible m gs c d) h in lowest_exists m gs c d become_op r.0 r.1 r.2
  shown_exists (transfer g k) h =
      ⊎_elim
      (λ p. let r = some_op_found write_op (possible m gs g k) p in let l = lowest_exists m gs g k write_op r.0 r.1 r.2 in (l.0, inl l.1))
      (λ n. ⊎_elim
      (λ p. absurd (n p))
      (λ p. let r = some_op_found read_op (possible m gs k g) p in
      let l = lowest_exists m gs k g read_op r.0 r.1 r.2 in
      (l.0, inr ((λ j w z. n (made m gs write_like (λ e. e) w ((reduction m gs (j ∷ [])).0 z).0)), l.1)))
      (either_part (some_op write_op (possible m gs g k)) (some_op read_op (possible m gs k g)) h))
      (cases_test (some_op write_op (possible m gs g k)))
  shown_exists (contact s t) h =
      let r = has_some (possible m gs s t) (λ e. T_not (eqb (possible m gs s t) 0) h (subst (λ x. T (eqb x 0)) (sym e) tt)) in
      lowest_exists m gs s t any_op r.0 tt r.1

  pub origin_exists : (i : Interaction) → Can m gs i → (k : ℕ) × Origin m gs i k
  origin_exists i h =
      let s = i.subject in
      let t = i.target in
      let o = i.operation in
      let c = and_has (m.permitted s t) (bit_or (m.written s t) (granted gs s t)) o h in
      ⊎_elim
      (λ w. (0, inl (record { is_written = w; is_permitted = c.0 }, refl)))
      (λ n. ⊎_elim
      (λ w. absurd (n w))
      (λ g. let r = granting gs s t o g in
      let l = least_from (λ k. given_test gs k i) r.number (given_from gs r.number i (record { over = r.over; gives = r.gives })) in
      (l.0, inr ((λ a. n a.is_written), given_found gs l.0 i l.1, (λ j w. l.2 j (given_from gs j i w)))))
      (or_has (m.written s t) (granted gs s t) o c.1))
      (cases_test (has (m.written s t) o))

  -- what shows a move is possible
  pub shown_possible : (v : Move) (i : Interaction) → Shown m gs v i → Possible m gs i
  shown_possible (transition c d) i h = h.possible
  shown_possible (transfer g k) i h = ⊎_elim (λ p. p.possible) (λ p. p.1.possible) h
  shown_possible (contact s t) i h = h.possible

  pub shown_can : {vs : List Move} {ss : List Step} → Pairwise (AsStep m gs) vs ss → AllByRecursion (Can m gs) (map (λ (s : Step). s.interaction) ss)
  shown_can none = tt
  shown_can (also {a = v} {b = s} p ps) = (((reduction m gs (s.interaction ∷ [])).0 (shown_possible v s.interaction p.0)).0, shown_can ps)

  steps_for : (vs : List Move) → AllByRecursion (CanMake m gs) vs → (ss : List Step) × Pairwise (AsStep m gs) vs ss
  steps_for [] h = ([], none)
  steps_for (v ∷ vs) h =
      let i = shown_exists v h.0 in
      let k = origin_exists i.0 ((reduction m gs (i.0 ∷ [])).0 (shown_possible v i.0 i.1)).0 in
      let r = steps_for vs h.1 in
      (record { interaction = i.0; origin = k.0 } ∷ r.0, also (i.1, k.1) r.1)

  -- steps that show an activity than which none is shorter; that they are a legal run follows
  abbrev pub shown_by : {Sought : List Move → Type 0} {vs : List Move} {ss : List Step} → Sought vs → Pairwise (AsStep m gs) vs ss → AtLeast m gs Sought (length ss) → ShortestShown m gs Sought ss
  shown_by {vs = vs} {ss = ss} f w short =
      record { moves = vs; sought = f; shown = w; legal = (reduction m gs (map (λ (s : Step). s.interaction) ss)).1 (shown_can w); shortest = short }

  -- where a forbidden activity is realised and none is shorter, there are steps that show it
  pub broken_exists : (p : Property) (vs : List Move) → Forbids m p vs → Realises m gs vs → ((ms : List Move) → Forbids m p ms → Realises m gs ms → length vs ≤ length ms) → (ss : List Step) × Broken m gs p ss
  broken_exists p vs f r short = let x = steps_for vs ((realised m gs vs).0 r) in (x.0, shown_by f x.1 (λ ms g z. omega (arith, short ms g z, same_length x.1)))
