-- How steps show moves, by a test that computes.
use Rattle.std.proofs.Common.{◌≡◌, ℕ, ◌*◌, ◌≤◌, Bool, true, false, cond, not, ◌&&◌, ◌||◌, T, eqb, List, [], ◌∷◌, length, sym, refl, subst, subst₂, inl, inr, ⊎_elim, arith, eqb→eq, T_not}
use Rattle.std.proofs.lemmas.Bool.{cases_lt}
use Rattle.access.specs.Operations.{has, read_op, write_op, become_op, any_op, write_like}
use Rattle.access.specs.Policy.{Meaning, Interaction, holds}
use Rattle.verdicts.specs.Runs.{Grants}
use Rattle.verdicts.specs.Activities.{Move, transition, transfer, contact, Property, domain, Forbids}
use Rattle.verdicts.specs.Possible.{possible, Can, any_below, some_op}
use Rattle.verdicts.specs.Verdicts.{Pairwise, none, also, Realises, Guaranteed, Step, LowestPossible, Shown, Origin, AsStep, Broken}
use Rattle.access.proofs.Tests.{both, both_parts, either_part}
use Rattle.verdicts.proofs.Bounded.{any_from}
use Rattle.verdicts.proofs.Reduction.{reduction}
use Rattle.verdicts.proofs.Moves.{does_has, made}
use Rattle.verdicts.proofs.Domains.{domain_shortest}
use Rattle.verdicts.proofs.Decided.{given_test, given_found, given_from}
use Rattle.verdicts.proofs.Exists.{shown_by}

module _ (m : Meaning) (gs : Grants) where
  abbrev lowest_test : ℕ → ℕ → (ℕ → Bool) → Interaction → Bool
  lowest_test s t test i =
      eqb i.subject s && (eqb i.target t && (test i.operation && (has (possible m gs s t) i.operation && not (any_below (λ o. test o && has (possible m gs s t) o) i.operation))))

  pub lowest_from : (s t : ℕ) (test : ℕ → Bool) (i : Interaction) → T (lowest_test s t test i) → LowestPossible m gs s t test i
  lowest_from s t test i h =
      let o = i.operation in
      let set = possible m gs s t in
      let a = both_parts (eqb i.subject s) _ h in
      let b = both_parts (eqb i.target t) _ a.1 in
      let c = both_parts (test o) _ b.1 in
      let d = both_parts (has set o) _ c.1 in
      let by : i.subject ≡ s = eqb→eq i.subject s a.0 in
      let on : i.target ≡ t = eqb→eq i.target t b.0 in
      let can : Can m gs i = subst₂ (λ x y. T (has (possible m gs x y) o)) (sym by) (sym on) d.0 in
      record {
        does = record { by = by; on = on; fits = c.0 };
        possible = (reduction m gs (i ∷ [])).1 (can, tt);
        least = λ j w p.
            ⊎_elim
            (λ l. absurd (T_not (any_below (λ x. test x && has set x) o) d.1 (any_from (λ x. test x && has set x) o j.operation l (both (test j.operation) (has set j.operation) w.fits (does_has m gs w ((reduction m gs (j ∷ [])).0 p).0)))))
            (λ q. q) (cases_lt j.operation o);
      }

  abbrev shown_test : Move → Interaction → Bool
  shown_test (transition c d) i = lowest_test c d become_op i
  shown_test (transfer g k) i = lowest_test g k write_op i || (not (some_op write_op (possible m gs g k)) && lowest_test k g read_op i)
  shown_test (contact s t) i = lowest_test s t any_op i

  pub shown_from : (v : Move) (i : Interaction) → T (shown_test v i) → Shown m gs v i
  shown_from (transition c d) i h = lowest_from c d become_op i h
  shown_from (transfer g k) i h =
      ⊎_elim
      (λ p. inl (lowest_from g k write_op i p))
      (λ p. let q = both_parts (not (some_op write_op (possible m gs g k))) (lowest_test k g read_op i) p in
      inr ((λ j w r. T_not (some_op write_op (possible m gs g k)) q.0 (made m gs write_like (λ e. e) w ((reduction m gs (j ∷ [])).0 r).0)), lowest_from k g read_op i q.1))
      (either_part (lowest_test g k write_op i) _ h)
  shown_from (contact s t) i h = lowest_from s t any_op i h

  abbrev allows_test : Interaction → Bool
  allows_test i = holds m.written i && holds m.permitted i

  abbrev origin_test : Interaction → ℕ → Bool
  origin_test i k = cond (allows_test i) (eqb k 0) (given_test gs k i && not (any_below (λ j. given_test gs j i) k))

  pub origin_from : (i : Interaction) (k : ℕ) → T (origin_test i k) → Origin m gs i k
  origin_from i k h = go (allows_test i) refl h
    where
      go : (b : Bool) → allows_test i ≡ b → T (cond b (eqb k 0) (given_test gs k i && not (any_below (λ j. given_test gs j i) k))) → Origin m gs i k
      go true e h =
          let p = both_parts (holds m.written i) (holds m.permitted i) (subst T (sym e) tt) in
          inl (record { is_written = p.0; is_permitted = p.1 }, eqb→eq k 0 h)
      go false e h =
          let p = both_parts (given_test gs k i) _ h in
          inr (
            (λ a. subst T e (both (holds m.written i) _ a.is_written a.is_permitted)),
            given_found gs k i p.0,
            (λ j g. ⊎_elim (λ l. absurd (T_not (any_below (λ j. given_test gs j i) k) p.1 (any_from (λ j. given_test gs j i) k j l (given_from gs j i g)))) (λ q. q) (cases_lt j k)),
          )

  -- the moves of an activity against its steps
  abbrev pub steps_test : List Move → List Step → Bool
  steps_test [] [] = true
  steps_test [] (s ∷ ss) = false
  steps_test (v ∷ vs) [] = false
  steps_test (v ∷ vs) (s ∷ ss) = shown_test v s.interaction && (origin_test s.interaction s.origin && steps_test vs ss)

  pub steps_shown : (vs : List Move) (ss : List Step) → T (steps_test vs ss) → Pairwise (AsStep m gs) vs ss
  steps_shown [] [] h = none
  steps_shown [] (s ∷ ss) h = elim h [ ]
  steps_shown (v ∷ vs) [] h = elim h [ ]
  steps_shown (v ∷ vs) (s ∷ ss) h =
      let p = both_parts (shown_test v s.interaction) _ h in
      let q = both_parts (origin_test s.interaction s.origin) _ p.1 in
      also (shown_from v s.interaction p.0, origin_from s.interaction s.origin q.0) (steps_shown vs ss q.1)

  pub domain_bound : (A : ℕ → Bool) (ms : List Move) → Forbids m (domain A) ms → Realises m gs ms → 1 ≤ 1 * length ms
  domain_bound A ms f r = omega (arith, domain_shortest m gs A ms f r)

  -- a forbidden activity whose steps pass the test, and than which none is shorter
  pub broken : (p : Property) (vs : List Move) {ss : List Step} → Forbids m p vs → T (steps_test vs ss) → ((ms : List Move) → Forbids m p ms → Realises m gs ms → length ss ≤ 1 * length ms) → Broken m gs p ss
  broken p vs {ss} f t short = shown_by m gs {Sought = Forbids m p} f (steps_shown vs ss t) (λ ms g r. let h = short ms g r in omega arith)

  -- no activity has a length that exceeds a multiple of itself by 0
  pub guaranteed : (p : Property) → ((ms : List Move) → Forbids m p ms → Realises m gs ms → 1 ≤ 0 * length ms) → Guaranteed m gs p
  guaranteed p none_at ms f r = let h = none_at ms f r in omega arith
