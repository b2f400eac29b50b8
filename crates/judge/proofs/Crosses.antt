-- Domains: a step across the edge, or none.
use Rattle.std.proofs.Common.{◌≡◌, ℕ, ◌<◌, ◌≤◌, Bool, false, ◌&&◌, T, ◌⊎◌, List, [], ◌∷◌, length, set, Some, None, Option, MatchOption, IsSome, sym, refl, ap₂, ◌∙◌, subst, subst₂, inl, inr, ⊎_elim, arith}
use Rattle.std.specs.List.{AllByRecursion}
use lib.Bits.{bit_and, bit_or}
use Rattle.std.proofs.lemmas.Bool.{cases_Bool, cases_lt}
use Rattle.access.specs.Operations.{has}
use Rattle.access.specs.Contexts.{both_inside, member, FirstAbove}
use Rattle.access.specs.declared.context_set.ContextSet.{ContextSet}
use Rattle.access.proofs.Tests.{both, both_parts}
use Rattle.access.specs.Policy.{Meaning, Interaction}
use Rattle.access.specs.Sound.{Sound}
use Rattle.access.proofs.Bits.{has_none}
use Rattle.access.proofs.Settings.{pair_parts}
use Rattle.verdicts.specs.Runs.{Grants}
use Rattle.verdicts.specs.Activities.{Move, contact, domain, apart, Forbids}
use Rattle.verdicts.specs.Possible.{granted, makeable, Can, CanMake}
use Rattle.verdicts.specs.Verdicts.{none, also, Realises, NoneRealised}
use Rattle.verdicts.specs.First.{way, Lower, FirstOf}
use Rattle.verdicts.proofs.Reduction.{reduction}
use Rattle.verdicts.proofs.Moves.{makeable_done, done_makeable, realised}
use Rattle.verdicts.proofs.Domains.{domain_closed, domain_shortest}
use Rattle.verdicts.proofs.Exists.{shown_by}
use Rattle.judge.specs.declared.step.Step.{Step}
use Rattle.judge.specs.Moved.{ShownAs}
use Rattle.judge.specs.Contextual.{IsSetOf}
use Rattle.judge.proofs.Selected.{makeable_shown}
use Rattle.judge.specs.Crossings.{Across, NoneAcross, AcrossFrom}
use Rattle.judge.specs.Judged.{Tells}
use Rattle.judge.specs.declared.verdict.Verdict.TheVariants.{Broken}

-- what is told of an answer, from what is told of it otherwise
pub retold : {X : Type 0} (r : Option X) {Q Q' : Type 0} {P P' : X → Type 0} → (Q → Q') → ((x : X) → P x → P' x) → MatchOption r Q P → MatchOption r Q' P'
retold None q p h = q h
retold (Some x) q p h = p x h

module _ (m : Meaning) (gs : Grants) (l : Sound m) (A : ℕ → Bool) where
  can_inside : (i : Interaction) → Can m gs i → (1 ≤ i.subject) × (i.subject ≤ m.contexts) × (1 ≤ i.target) × (i.target ≤ m.contexts)
  can_inside i h =
      ⊎_elim
      (pair_parts m.contexts i.subject i.target)
      (λ e. absurd (subst T (has_none i.operation) (subst (λ x. T (has (bit_and x (bit_or (m.written i.subject i.target) (granted gs i.subject i.target))) i.operation)) (l.permitted_inside i.subject i.target e) h)))
      (cases_Bool (both_inside m.contexts i.subject i.target))

  pub contact_none : ((s : ℕ) → 1 ≤ s → s ≤ m.contexts → (t : ℕ) → 1 ≤ t → t ≤ m.contexts → NoneAcross m gs A s t) → NoneRealised m gs (Forbids m (domain A))
  contact_none never =
      domain_closed m gs A (λ s t a c.
      let r = makeable_done m gs (contact s t) c in
      let i = r.interaction in
      let e = subst₂ (λ x y. (1 ≤ x) × (x ≤ m.contexts) × (1 ≤ y) × (y ≤ m.contexts)) r.makes.by r.makes.on (can_inside i r.can) in
      never s e.0 e.1 t e.2 e.3 a i r.makes ((reduction m gs (i ∷ [])).1 (r.can, tt)))

  -- the contact of a realised crossing is one
  crossed : {ms : List Move} (h : Forbids m (domain A) ms) → Realises m gs ms → (1 ≤ h.subject) × (1 ≤ h.target) × (h.target ≤ m.contexts) × (NoneAcross m gs A h.subject h.target → ⊥)
  crossed h r =
      let d = makeable_done m gs (contact h.subject h.target) (subst (AllByRecursion (CanMake m gs)) h.only ((realised m gs _).0 r)).0 in
      let i = d.interaction in
      let e = subst₂ (λ x y. (1 ≤ x) × (x ≤ m.contexts) × (1 ≤ y) × (y ≤ m.contexts)) d.makes.by d.makes.on (can_inside i d.can) in
      (e.0, e.2, e.3, λ none. none h.across i d.makes ((reduction m gs (i ∷ [])).1 (d.can, tt)))

  -- no other one comes sooner
  first_contact : (step : Step) (h : Across m gs A step) → FirstOf m gs (Forbids m (domain A)) false (contact h.subject h.on.target ∷ [])
  first_contact step h ms f r e =
      let c = crossed f r in
      let s = h.subject in
      let t = h.on.target in
      subst (λ vs. (vs ≡ contact s t ∷ []) ⊎ Lower (s ∷ 2 ∷ t ∷ []) (way false vs)) (sym f.only)
      (⊎_elim
      (λ (l : f.subject < s). absurd (c.3 (h.before f.subject c.0 l f.target c.1 c.2)))
      (λ (l : s ≤ f.subject).
      ⊎_elim
      (λ (k : s < f.subject). inr (inl k))
      (λ (k : f.subject ≤ s).
      let same : f.subject ≡ s = omega arith in
      ⊎_elim
      (λ (j : f.target < t). absurd (c.3 (subst (λ x. NoneAcross m gs A x f.target) (sym same) (h.on.sooner f.target c.1 j))))
      (λ (j : t ≤ f.target).
      ⊎_elim
      (λ (i : t < f.target). inr (inr (sym same, inr (refl, inl i))))
      (λ (i : f.target ≤ t). let on : f.target ≡ t = omega arith in inl (ap₂ (λ x y. contact x y ∷ []) same on))
      (cases_lt t f.target))
      (cases_lt f.target t))
      (cases_lt s f.subject))
      (cases_lt f.subject s))

  pub contact_some : (ss : List Step) (r : Step) → m.contexts ≤ length ss → Across m gs A r → Tells m gs (Forbids m (domain A)) false ss (set ss 0 r) (Broken 1)
  contact_some [] r f h = absurd (omega (arith, l.a_context))
  contact_some (x ∷ xs) r f h =
      let vs : List Move = contact h.subject h.on.target ∷ [] in
      let forbidden : Forbids m (domain A) vs = record { subject = h.subject; target = h.on.target; across = h.on.across; only = refl } in (
        record {
          first = record { shown = shown_by m gs {Sought = Forbids m (domain A)} forbidden (also h.on.shown none) (domain_shortest m gs A); first = first_contact r h };
          count = refl;
          few = l.a_context;
        },
        refl,
      )

  -- the first context on which s can do something across the edge
  module _ (s : ℕ) (set : ContextSet) (is : IsSetOf (λ t. makeable m gs (contact s t) && apart A s t) set) where
    none_on : (t : ℕ) → member set t ≡ false → NoneAcross m gs A s t
    none_on t e a i w p = subst T (sym (is t) ∙ e) (both (makeable m gs (contact s t)) (apart A s t) (done_makeable m gs (contact s t) i w ((reduction m gs (i ∷ [])).0 p).0) a)

    pub crossing_none : FirstAbove 0 set None → AcrossFrom m gs A s m.contexts None
    crossing_none never t low high = none_on t (never t low)

    pub crossing_some : (t : ℕ) → FirstAbove 0 set (Some t) → (r : Option Step) → ShownAs m gs (contact s t) r → AcrossFrom m gs A s m.contexts r
    crossing_some t first r shown =
        let h = both_parts (makeable m gs (contact s t)) (apart A s t) (subst T (sym (sym (is t) ∙ first.1)) tt) in
        let d = makeable_done m gs (contact s t) h.0 in
        let e = can_inside d.interaction d.can in
        go r shown (makeable_shown m gs (contact s t) h.0 r shown) h.1 (subst (λ y. y ≤ m.contexts) d.makes.on e.3)
      where
        go : (r : Option Step) → ShownAs m gs (contact s t) r → IsSome r → T (apart A s t) → t ≤ m.contexts → AcrossFrom m gs A s m.contexts r
        go None shown some a high = absurd (subst T (sym some) tt)
        go (Some step) shown some a high = record { target = t; low = first.0; high = high; across = a; shown = shown; sooner = λ u low below. none_on u (first.2 u low below) }
