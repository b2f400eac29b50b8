-- The two verdicts exclude one another, and the number of steps is the same.
use Rattle.std.proofs.Common.{◌≡◌, ◌≤◌, List, map, length, refl, inl, inr, ⊎_elim, arith}
use Rattle.access.specs.Policy.{Meaning, Interaction}
use Rattle.verdicts.specs.Runs.{Grants}
use Rattle.verdicts.specs.Activities.{Move, transition, transfer, contact, Makes}
use Rattle.verdicts.specs.Verdicts.{Pairwise, none, also, Realises, NoneRealised, Step, Shown, AsStep, ShortestShown}

pub same_length : {A B : Type 0} {R : A → B → Type 0} {xs : List A} {ys : List B} → Pairwise R xs ys → length xs ≡ length ys
same_length none = refl
same_length (also p ps) = let e = same_length ps in omega arith

module _ (m : Meaning) (gs : Grants) where
  -- what shows a move makes it
  pub shown_makes : (v : Move) (i : Interaction) → Shown m gs v i → Makes v i
  shown_makes (transition c d) i h = h.does
  shown_makes (transfer g k) i h = ⊎_elim (λ p. inl p.does) (λ p. inr p.1.does) h
  shown_makes (contact s t) i h = h.does

  pub steps_make : {vs : List Move} {ss : List Step} → Pairwise (AsStep m gs) vs ss → Pairwise Makes vs (map (λ (s : Step). s.interaction) ss)
  steps_make none = none
  steps_make (also {a = v} {b = s} p ps) = also (shown_makes v s.interaction p.0) (steps_make ps)

  -- what steps show a legal run realises
  pub shown_realised : {Sought : List Move → Type 0} {ss : List Step} (b : ShortestShown m gs Sought ss) → Realises m gs b.moves
  shown_realised {ss = ss} b = record { interactions = map (λ (s : Step). s.interaction) ss; makes = steps_make b.shown; legal = b.legal }

  pub never_both : {Sought : List Move → Type 0} {ss : List Step} → ShortestShown m gs Sought ss → NoneRealised m gs Sought → ⊥
  never_both b g = g b.moves b.sought (shown_realised b)

  pub one_number : {Sought : List Move → Type 0} {ss rr : List Step} → ShortestShown m gs Sought ss → ShortestShown m gs Sought rr → length ss ≤ length rr
  one_number {ss = ss} {rr = rr} b c =
      let e = same_length c.shown in
      let h = b.shortest c.moves c.sought (shown_realised c) in
      omega arith
