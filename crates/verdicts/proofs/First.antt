-- Steps that show the first of the shortest activities are one list; and how the moves of a pull or a flow lie along its way.
use Rattle.std.proofs.Common.{◌≡◌, ℕ, ◌≤◌, ◌⊎◌, Bool, true, List, [], ◌∷◌, ◌++◌, reverse, length, sym, refl, ap, ap₂, ◌∙◌, subst, inl, inr, ⊎_elim, arith}
use mathlib.Core.List.{reverse-cons}
use Rattle.std.proofs.lemmas.Grind.{flat_map-append}
use Rattle.access.specs.Policy.{Meaning}
use Rattle.verdicts.specs.Runs.{Grants}
use Rattle.verdicts.specs.Activities.{Move, transition, transfer, Chain, same, next, Flow}
use Rattle.verdicts.specs.Verdicts.{Pairwise, none, also, Step, AsStep}
use Rattle.verdicts.specs.First.{fetching, leg, way, Lower, FirstShown}
use Rattle.verdicts.proofs.Agreement.{same_length, shown_realised}
use Rattle.verdicts.proofs.Shown.{step_once}

not_both : (xs ys : List ℕ) → Lower xs ys → Lower ys xs → ⊥
not_both [] ys h k = h
not_both (x ∷ xs) [] h k = h
not_both (x ∷ xs) (y ∷ ys) (inl h) (inl k) = omega (arith, h, k)
not_both (x ∷ xs) (y ∷ ys) (inl h) (inr k) = omega (arith, h, k.0)
not_both (x ∷ xs) (y ∷ ys) (inr h) (inl k) = omega (arith, h.0, k)
not_both (x ∷ xs) (y ∷ ys) (inr h) (inr k) = not_both xs ys h.1 k.1

module _ (m : Meaning) (gs : Grants) where
  steps_once : {vs : List Move} {ss rr : List Step} → Pairwise (AsStep m gs) vs ss → Pairwise (AsStep m gs) vs rr → ss ≡ rr
  steps_once none none = refl
  steps_once (also {a = v} {b = s} p ps) (also {b = r} q qs) = ap₂ (λ x xs. x ∷ xs) (step_once m gs v s r p q) (steps_once ps qs)

  module _ {Sought : List Move → Type 0} {back : Bool} {ss rr : List Step} (a : FirstShown m gs Sought back ss) (b : FirstShown m gs Sought back rr) where
    no_longer : length a.shown.moves ≤ length b.shown.moves
    no_longer = omega (arith, same_length a.shown.shown, a.shown.shortest b.shown.moves b.shown.sought (shown_realised m gs b.shown))

    not_after : length b.shown.moves ≡ length a.shown.moves → (b.shown.moves ≡ a.shown.moves) ⊎ Lower (way back a.shown.moves) (way back b.shown.moves)
    not_after e = a.first b.shown.moves b.shown.sought (shown_realised m gs b.shown) e

  -- what is sought may be said in other words
  pub said_as : {S S' : List Move → Type 0} {back : Bool} {ss : List Step} → ((ms : List Move) → S' ms → S ms) → ((ms : List Move) → S ms → S' ms) → FirstShown m gs S back ss → FirstShown m gs S' back ss
  said_as to from f =
      let w = f.shown in
      record {
        shown = record { moves = w.moves; sought = from w.moves w.sought; shown = w.shown; legal = w.legal; shortest = λ ms h r. w.shortest ms (to ms h) r };
        first = λ ms h r e. f.first ms (to ms h) r e;
      }

  pub one_first : {Sought : List Move → Type 0} {back : Bool} {ss rr : List Step} → FirstShown m gs Sought back ss → FirstShown m gs Sought back rr → ss ≡ rr
  one_first {back = back} {rr = rr} a b =
      let e : length b.shown.moves ≡ length a.shown.moves = omega (arith, no_longer a b, no_longer b a) in
      let same : b.shown.moves ≡ a.shown.moves = ⊎_elim (λ z. z) (λ h. ⊎_elim sym (λ k. absurd (not_both (way back a.shown.moves) (way back b.shown.moves) h k)) (not_after b a (sym e))) (not_after a b e) in
      steps_once a.shown.shown (subst (λ vs. Pairwise (AsStep m gs) vs rr) same b.shown.shown)

-- ---- along the way the transitions stay, and the transfers turn round

pub fetching_becoming : {a v : ℕ} {ts : List Move} → Chain transition a v ts → (us : List Move) → fetching (ts ++ us) ≡ ts ++ fetching us
fetching_becoming same us = refl
fetching_becoming (next {c = c} b r) us = ap (λ ms. transition b c ∷ ms) (fetching_becoming r us)

pub fetching_transfers : (giver taker : ℕ → ℕ → ℕ) {c d : ℕ} {us : List Move} → Chain (λ x y. transfer (giver x y) (taker x y)) c d us → fetching us ≡ reverse us
fetching_transfers giver taker same = refl
fetching_transfers giver taker (next {c = c} {ms = us} b r) =
    let v = transfer (giver b c) (taker b c) in ap (λ ms. ms ++ v ∷ []) (fetching_transfers giver taker r) ∙ sym (reverse-cons v us)

-- the way of a flow begins at its source
pub flow_starts : {a b : ℕ} {ms : List Move} → Flow a b ms → (ms ≡ []) ⊎ ((rest : List ℕ) × (way true ms ≡ a ∷ rest))
flow_starts same = inl refl
flow_starts (next b same) = inr (1 ∷ b ∷ [], refl)
flow_starts (next b (next {c = d} {ms = ms} c r)) =
    ⊎_elim
    (λ e. absurd (let n = ap length e in omega arith))
    (λ s. inr (s.0 ++ (c ∷ 1 ∷ b ∷ []), flat_map-append (leg true) (fetching ms ++ transfer c d ∷ []) (transfer b c ∷ []) ∙ ap (λ xs. xs ++ (c ∷ 1 ∷ b ∷ [])) s.1))
    (flow_starts (next c r))
