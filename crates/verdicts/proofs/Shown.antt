-- Each move is shown by one step at most.
use Rattle.std.proofs.Common.{◌≡◌, ℕ, Bool, sym, ap, ◌∙◌, subst, ⊎_elim, arith}
use Rattle.access.specs.Policy.{Meaning, Interaction}
use Rattle.verdicts.specs.Runs.{Grants}
use Rattle.verdicts.specs.Activities.{Move, transition, transfer, contact}
use Rattle.verdicts.specs.Verdicts.{LowestPossible, Shown, Origin, Step, AsStep}

interaction : ℕ → ℕ → ℕ → Interaction
interaction s t o = record { subject = s; target = t; operation = o }

interaction_same : (i j : Interaction) → i.subject ≡ j.subject → i.target ≡ j.target → i.operation ≡ j.operation → i ≡ j
unfolding interaction
interaction_same i j a b c =
    ap (λ s. interaction s i.target i.operation) a ∙ ap (λ t. interaction j.subject t i.operation) b ∙ ap (λ o. interaction j.subject j.target o) c

step : Interaction → ℕ → Step
step i k = record { interaction = i; origin = k }

step_same : (s r : Step) → s.interaction ≡ r.interaction → s.origin ≡ r.origin → s ≡ r
unfolding step
step_same s r a b = ap (λ i. step i s.origin) a ∙ ap (λ k. step r.interaction k) b

module _ (m : Meaning) (gs : Grants) where
  lowest_once : {s t : ℕ} {test : ℕ → Bool} {i j : Interaction} → LowestPossible m gs s t test i → LowestPossible m gs s t test j → i ≡ j
  lowest_once {i = i} {j = j} a b =
      interaction_same i j (a.does.by ∙ sym b.does.by) (a.does.on ∙ sym b.does.on) (omega (arith, a.least j b.does b.possible, b.least i a.does a.possible))

  shown_once : (v : Move) (i j : Interaction) → Shown m gs v i → Shown m gs v j → i ≡ j
  shown_once (transition c d) i j a b = lowest_once a b
  shown_once (transfer g k) i j a b =
      ⊎_elim
      (λ x. ⊎_elim (λ y. lowest_once x y) (λ y. absurd (y.0 i x.does x.possible)) b)
      (λ x. ⊎_elim (λ y. absurd (x.0 j y.does y.possible)) (λ y. lowest_once x.1 y.1) b)
      a
  shown_once (contact s t) i j a b = lowest_once a b

  origin_once : (i : Interaction) (k l : ℕ) → Origin m gs i k → Origin m gs i l → k ≡ l
  origin_once i k l a b =
      ⊎_elim
      (λ x. ⊎_elim (λ y. x.1 ∙ sym y.1) (λ y. absurd (y.0 x.0)) b)
      (λ x. ⊎_elim (λ y. absurd (x.0 y.0)) (λ y. omega (arith, x.2 l y.1, y.2 k x.1)) b)
      a

  -- each move is shown by one step at most
  pub step_once : (v : Move) (s r : Step) → AsStep m gs v s → AsStep m gs v r → s ≡ r
  step_once v s r a b =
      let e = shown_once v s.interaction r.interaction a.0 b.0 in
      step_same s r e (origin_once r.interaction s.origin r.origin (subst (λ i. Origin m gs i s.origin) e a.1) b.1)
