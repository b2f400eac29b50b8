-- Consistency, source by source: the nearest source gives the verdict.
use Rattle.std.proofs.Common.{◌≡◌, ℕ, suc, ◌+◌, ◌-◌, ◌≤◌, Bool, true, false, ◌&&◌, ◌||◌, T, eqb, ltb, leb, List, drop, Some, None, Option, sym, subst, subst₂, ⊎_elim, arith, leb→le, T_not}
use mathlib.Core.Path.{fun_ext}
use lib.Dec.{not_T}
use Rattle.std.proofs.lemmas.Bool.{cases_eq, cases_Bool, ltb-true, ltb-false, cond-true, cond-false}
use Rattle.access.specs.Contexts.{inside, member, empty}
use Rattle.access.specs.declared.context_set.ContextSet.{ContextSet}
use Rattle.access.specs.Policy.{Meaning}
use Rattle.access.specs.Sound.{Sound}
use Rattle.access.proofs.Tests.{both, both_parts}
use Rattle.verdicts.specs.Runs.{Grants}
use Rattle.verdicts.specs.Activities.{Flow, consistency, Forbids, ReadsDirectly}
use Rattle.verdicts.specs.Laws.{AllInside}
use Rattle.verdicts.specs.Verdicts.{NoneRealised, AtLeast}
use Rattle.verdicts.proofs.Agreement.{same_length, shown_realised}
use Rattle.verdicts.proofs.Decided.{direct_from, direct_found}
use Rattle.judge.specs.declared.step.Step.{Step}
use Rattle.judge.specs.Found.{Leads, Found, Shortest, Measured, Searched}
use Rattle.judge.proofs.Properties.{sources_none, source_found}
use Rattle.judge.specs.Plan.{among}
use Rattle.judge.specs.Done.{reads_alone}
use Rattle.judge.specs.Flows.{is_unread, From, Nearest, Best, nearer_of}
use Rattle.judge.specs.Judged.{Tells}
use Rattle.judge.specs.declared.nearest.Near.{Near}
use Rattle.judge.specs.declared.verdict.Verdict.TheVariants.{Guaranteed, Broken}
use Rattle.judge.proofs.Sets.{none_in, one_is}

-- ---- the sets that the code makes

module _ (m : Meaning) (gs : Grants) (l : Sound m) (B : ℕ → Bool) (a : ℕ) (rest : ContextSet) (is_rest : (d : ℕ) → member rest d ≡ is_unread m B a d) where
  -- nothing is left to forbid
  pub nothing_left : true ≡ empty rest → NoneRealised m gs (From m B a)
  nothing_left e ms h r = none_in rest e h.to (subst T (sym (is_rest h.to)) h.to_in)

  module _ (none one : ContextSet) (low : 1 ≤ a) (high : a ≤ m.contexts) (is_none : (d : ℕ) → member none d ≡ false) (is_one : (d : ℕ) → member one d ≡ ((inside 256 a && eqb d a) || member none d)) where
    pub measured_from : (r : Option ℕ) → Measured m gs (Leads Flow (among m.contexts (member one)) (member rest)) r → Measured m gs (From m B a) r
    measured_from r = subst₂ (λ X Y. Measured m gs (Leads Flow X Y) r) (one_is m.contexts a none one low high l.few_contexts is_none is_one) (fun_ext is_rest)

    pub searched_from : (ss ss' : List Step) (r : Option ℕ) → Searched m gs (Leads Flow (among m.contexts (member one)) (member rest)) true ss ss' r → Searched m gs (From m B a) true ss ss' r
    searched_from ss ss' r = subst₂ (λ X Y. Searched m gs (Leads Flow X Y) true ss ss' r) (one_is m.contexts a none one low high l.few_contexts is_none is_one) (fun_ext is_rest)

-- ---- the best source

module _ (m : Meaning) (gs : Grants) (A B : ℕ → Bool) (top : ℕ) where
  -- what holds of the sources up to top, and of the next, holds up to the next
  further : (P : ℕ → Type 0) → ((a : ℕ) → 1 ≤ a → a ≤ top → T (A a) → P a) → (T (A (top + 1)) → P (top + 1)) → (a : ℕ) → 1 ≤ a → a ≤ top + 1 → T (A a) → P a
  further P h here a b c t =
      ⊎_elim
      (λ (z : a ≡ top + 1). subst P (sym z) (here (subst (λ x. T (A x)) z t)))
      (λ (z : a ≡ top + 1 → ⊥). h a b (omega arith) t)
      (cases_eq a (top + 1))

  kept : (q : Near) → Nearest m gs A B top q → (T (A (top + 1)) → AtLeast m gs (From m B (top + 1)) q.steps) → Nearest m gs A B (top + 1) q
  kept q h next = record { first = h.first; last = omega (arith, h.last); member = h.member; found = h.found; least = further (λ a. AtLeast m gs (From m B a) q.steps) h.least next; farther = h.farther }

  taken : (k : ℕ) → T (A (top + 1)) → Shortest m gs (From m B (top + 1)) k → ((a : ℕ) → 1 ≤ a → a ≤ top → T (A a) → AtLeast m gs (From m B a) (suc k)) → Nearest m gs A B (top + 1) (record { source = top + 1; steps = k })
  taken k t s h =
      record {
        first = omega arith;
        last = omega arith;
        member = t;
        found = s;
        least = further (λ a. AtLeast m gs (From m B a) k) (λ a b c d ms f r. omega (arith, h a b c d ms f r)) (λ _. s.shortest);
        farther = λ a b c d. h a b (omega arith) d;
      }

  pub best_skip : (best : Option Near) → false ≡ A (top + 1) → Best m gs A B top best → Best m gs A B (top + 1) best
  best_skip None e h = further (λ a. NoneRealised m gs (From m B a)) h (λ t. absurd (subst T (sym e) t))
  best_skip (Some q) e h = kept q h (λ t. absurd (subst T (sym e) t))

  pub best_nearer : (best : Option Near) (found : Option ℕ) → T (A (top + 1)) → Best m gs A B top best → Measured m gs (From m B (top + 1)) found → Best m gs A B (top + 1) (nearer_of best (top + 1) found)
  best_nearer None None t h w = further (λ a. NoneRealised m gs (From m B a)) h (λ _. w)
  best_nearer (Some q) None t h w = kept q h (λ _ ms f r. absurd (w ms f r))
  best_nearer None (Some k) t h w = taken k t w (λ a b c d ms f r. absurd (h a b c d ms f r))
  best_nearer (Some q) (Some k) t h w =
      ⊎_elim
      (λ (e : ltb k q.steps ≡ true). subst (Best m gs A B (top + 1)) (sym (cond-true (ltb k q.steps) (Some (record { source = top + 1; steps = k })) (Some q) e))
      (taken k t w (λ a b c d ms f r. omega (arith, h.least a b c d ms f r, ltb-true k q.steps e))))
      (λ (e : ltb k q.steps ≡ false). subst (Best m gs A B (top + 1)) (sym (cond-false (ltb k q.steps) (Some (record { source = top + 1; steps = k })) (Some q) e))
      (kept q h (λ _ ms f r. omega (arith, w.shortest ms f r, ltb-false k q.steps e))))
      (cases_Bool (ltb k q.steps))

-- one source looked at: the sources up to it
module _ (m : Meaning) (gs : Grants) (A B : ℕ → Bool) (a : ℕ) (low : 1 ≤ a) where
  pub looked_at : (best : Option Near) (found : Option ℕ) → T (A a) → Best m gs A B (a - 1) best → Measured m gs (From m B a) found → Best m gs A B a (nearer_of best a found)
  looked_at best found =
      subst (λ z. T (A z) → Best m gs A B (a - 1) best → Measured m gs (From m B z) found → Best m gs A B z (nearer_of best z found)) (omega arith)
      (best_nearer m gs A B (a - 1) best found)

  pub passed_over : (best : Option Near) → false ≡ A a → Best m gs A B (a - 1) best → Best m gs A B a best
  passed_over best = subst (λ z. false ≡ A z → Best m gs A B (a - 1) best → Best m gs A B z best) (omega arith) (best_skip m gs A B (a - 1) best)

-- ---- the verdict

module _ (m : Meaning) (gs : Grants) (A B : ℕ → Bool) where
  abbrev n : ℕ
  n = m.contexts

  module _ (ins_A : AllInside m.contexts A) (ins_B : AllInside m.contexts B) where
    fails : (a b : ℕ) → T (B b) → (ReadsDirectly m a b → ⊥) → T (is_unread m B a b)
    fails a b h away = (both (B b) _ h (not_T (reads_alone m a b) (λ d. away (direct_found m a b d))))

    bounds : (a : ℕ) → T (A a) → (1 ≤ a) × (a ≤ n)
    bounds a h = let i = both_parts (leb 1 a) (leb a n) (ins_A a h) in (leb→le 1 a i.0, leb→le a n i.1)

    pub flow_none : (ss ss' : List Step) → ss' ≡ ss → ((a : ℕ) → 1 ≤ a → a ≤ m.contexts → T (A a) → NoneRealised m gs (From m B a)) → Tells m gs (Forbids m (consistency A B)) true ss ss' Guaranteed
    flow_none ss ss' e none = (sources_none m gs A B (is_unread m B) fails (λ a h. let i = bounds a h in none a i.0 i.1 h), e)

    pub flow_some : (q : Near) → Nearest m gs A B m.contexts q → (ss ss' : List Step) (k : ℕ) → Found m gs (From m B q.source) true ss' k × (drop k ss' ≡ drop k ss) → Tells m gs (Forbids m (consistency A B)) true ss ss' (Broken k)
    flow_some q best ss ss' k h =
        let f = h.0 in
        let s = best.found in
        let all : q.steps ≡ k = omega (arith, f.count, f.first.shown.shortest s.moves s.sought s.realises, s.count, s.shortest f.first.shown.moves f.first.shown.sought (shown_realised m gs f.first.shown), same_length f.first.shown.shown) in (
          source_found m gs A B (is_unread m B) fails q.source best.member
              (λ b u. let y = both_parts (B b) _ u in (y.0, λ r. T_not (reads_alone m q.source b) y.1 (direct_from m q.source b r)))
              ss' k (λ c t ms g r. let i = bounds c t in omega (arith, best.least c i.0 i.1 t ms g r))
              (λ c t d ms g r. omega (arith, best.farther c (bounds c t).0 d t ms g r)) f,
          h.1,
        )
