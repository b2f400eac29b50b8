-- Ways of going in phases are walks of as many moves, and walks are such ways.
use Rattle.std.proofs.Common.{◌≡◌, ℕ, suc, ◌+◌, ◌-◌, ◌≤◌, Bool, true, false, T, List, [], ◌∷◌, ◌++◌, reverse, length, refl, ap, ◌∙◌, subst, ⊎_elim, arith, length-append}
use mathlib.Core.List.{reverse-reverse}
use lib.ListN.{length-reverse}
use Rattle.std.specs.List.{AllByRecursion}
use Rattle.std.proofs.ByRecursion.{All-append}
use Rattle.std.proofs.lemmas.Bool.{cases_lt}
use Rattle.verdicts.specs.Activities.{Move, Chain, same}
use Rattle.verdicts.specs.Searches.{Search}
use Rattle.verdicts.proofs.Chains.{all_front, all_back, all_reverse}
use Rattle.verdicts.proofs.Walks.{Walk, stop, go, sooner, chain_walk, walk_chain}
use Rattle.judge.specs.Kinds.{Early, here, on, last_move, turned, Going}

pub turned_length : (back : Bool) (ms : List Move) → length (turned back ms) ≡ length ms
turned_length true ms = length-reverse ms
turned_length false ms = refl

module _ (kind : Search) (makeable : Move → Bool) where
  abbrev each : List Move → Type 0
  each ms = AllByRecursion (λ v. T (makeable v)) ms

  abbrev Walks : ℕ → ℕ → ℕ → ℕ → Type 0
  Walks p c d k = Walk kind makeable (λ x. true) p c d k

  each_turned : (back : Bool) (ms : List Move) → each ms → each (turned back ms)
  each_turned true ms h = all_reverse _ ms h
  each_turned false ms h = h

  pub turned_each : (back : Bool) (ms : List Move) → each (turned back ms) → each ms
  turned_each true ms h = subst each (reverse-reverse ms) (all_reverse _ (reverse ms) h)
  turned_each false ms h = h

  early_walk : {p c v : ℕ} {ms : List Move} → Early kind p c v ms → p ≤ kind.phases - 1 → each ms → (d k : ℕ) → Walks (kind.phases - 1) v d k → Walks p c d (length ms + k)
  early_walk {p} {c} here l h d k w = let e : k ≡ 0 + k = omega arith in subst (λ x. Walks p c d x) e (sooner kind makeable p l w)
  early_walk {p} (on {q = q} {c = c} {ms = ms} b l' f r) l h d k w =
      let e : suc (length ms + k) ≡ suc (length ms) + k = omega arith in
      subst (λ x. Walks p b d x) e (go q b l' (omega arith) tt h.0 (early_walk r (omega arith) h.1 d k w))

  module _ (some : 1 ≤ kind.phases) (back : Bool) where
    pub going_walk : {a b : ℕ} {ms : List Move} → Going kind back a b ms → each ms → Walks 0 a b (length ms)
    going_walk {a} {b} {ms} g h =
        let all : each (g.front ++ turned back g.rest) = subst each g.order h in
        let late = chain_walk kind makeable (kind.phases - 1) (omega arith) g.late (turned_each back g.rest (all_back _ g.front (turned back g.rest) all)) b 0 (stop tt) in
        let e : length g.front + (length g.rest + 0) ≡ length ms = omega (arith, ap length g.order ∙ length-append g.front (turned back g.rest), turned_length back g.rest) in
        subst (λ k. Walks 0 a b k) e (early_walk g.early (omega arith) (all_front _ g.front (turned back g.rest) all) b (length g.rest + 0) late)

    -- the moves of a walk before the last phase, and those of the last
    record Parts (p c d k : ℕ) : Type 0 where
      pub via : ℕ
      pub front : List Move
      pub rest : List Move
      pub early : Early kind p c via front
      pub late : Chain (last_move kind) via d rest
      pub every_front : each front
      pub every_rest : each rest
      pub count : length front + length rest ≡ k

    parts : {ok : ℕ → Bool} {p c d k : ℕ} → Walk kind makeable ok p c d k → Parts p c d k
    parts {c = c} (stop o) = record { via = c; front = []; rest = []; early = here; late = same; every_front = tt; every_rest = tt; count = refl }
    parts {d = d} {k = k} (go {c = c} q b l f o v w) =
        ⊎_elim
        (λ before. let r = parts w in
        record { via = r.via; front = kind.move q b c ∷ r.front; rest = r.rest; early = on b l before r.early; late = r.late; every_front = (v, r.every_front); every_rest = r.every_rest; count = omega (arith, r.count) })
        (λ after.
        let e : suc q ≡ kind.phases = omega arith in
        let s : q ≡ kind.phases - 1 = omega arith in
        let r = walk_chain kind makeable q e {p = q} (omega arith) (go q b (omega arith) f o v w) in
        record { via = b; front = []; rest = r.moves; early = here; late = subst (λ x. Chain (kind.move x) b d r.moves) s r.chain; every_front = tt; every_rest = r.every; count = omega (arith, r.count) })
        (cases_lt (suc q) kind.phases)

    -- a way of going of k makeable moves
    pub record Goes (a b k : ℕ) : Type 0 where
      pub moves : List Move
      pub going : Going kind back a b moves
      pub every : each moves
      pub count : length moves ≡ k

    pub walk_going : {ok : ℕ → Bool} {a b k : ℕ} → Walk kind makeable ok 0 a b k → Goes a b k
    walk_going w =
        let r = parts w in
        let us = turned back r.rest in
        record {
          moves = r.front ++ us;
          going = record { via = r.via; front = r.front; rest = r.rest; early = r.early; late = r.late; order = refl };
          every = All-append _ r.front us r.every_front (each_turned back r.rest r.every_rest);
          count = omega (arith, length-append r.front us, turned_length back r.rest, r.count);
        }
