-- Chains of moves, and lists of them.
use Rattle.std.proofs.Common.{ℕ, List, [], ◌∷◌, ◌++◌, reverse, sym, subst}
use mathlib.Core.List.{reverse-cons}
use Rattle.std.specs.List.{AllByRecursion}
use Rattle.std.proofs.ByRecursion.{All-append}
use Rattle.verdicts.specs.Activities.{Move, Chain, same, next}

pub all_front : {X : Type 0} (P : X → Type 0) (xs ys : List X) → AllByRecursion P (xs ++ ys) → AllByRecursion P xs
all_front P [] ys h = tt
all_front P (x ∷ xs) ys h = (h.0, all_front P xs ys h.1)

pub all_back : {X : Type 0} (P : X → Type 0) (xs ys : List X) → AllByRecursion P (xs ++ ys) → AllByRecursion P ys
all_back P [] ys h = h
all_back P (x ∷ xs) ys h = all_back P xs ys h.1

pub all_reverse : {X : Type 0} (P : X → Type 0) (xs : List X) → AllByRecursion P xs → AllByRecursion P (reverse xs)
all_reverse P [] h = tt
all_reverse P (x ∷ xs) h = subst (AllByRecursion P) (sym (reverse-cons x xs)) (All-append P (reverse xs) (x ∷ []) (all_reverse P xs h.1) (h.0, tt))

-- chains grow at either end, join, and turn round
pub chain_push : (move : ℕ → ℕ → Move) {c d : ℕ} {ms : List Move} (e : ℕ) → Chain move c d ms → Chain move c e (ms ++ move d e ∷ [])
chain_push move {c} e same = next c same
chain_push move e (next b r) = next b (chain_push move e r)

pub chain_reverse : (move : ℕ → ℕ → Move) {c d : ℕ} {ms : List Move} → Chain (λ x y. move y x) c d ms → Chain move d c (reverse ms)
chain_reverse move same = same
chain_reverse move (next {c = c} {ms = ms} b r) = subst (Chain move _ b) (sym (reverse-cons (move c b) ms)) (chain_push move b (chain_reverse move r))
