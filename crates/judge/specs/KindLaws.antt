-- Push, pull and flow are ways of going in phases.
use Rattle.std.specs.Prelude.{◌≡◌, ℕ, zero, suc, ◌<◌, true, false, List, [], ◌∷◌, ◌++◌, reverse, refl}
use Rattle.std.proofs.Common.{sym, ap, ◌∙◌, subst, inl, inr, arith}
use Rattle.std.proofs.lemmas.List.{reverse-reverse}
use Rattle.verdicts.specs.Activities.{Move, transfer, Chain, same, next, Push, Pull, Flow}
use Rattle.verdicts.specs.Searches.{Search, pushing, pushing_move, pulling, pulling_move, flowing}
use Rattle.verdicts.specs.First.{fetching, leg}
use Rattle.verdicts.proofs.Chains.{chain_reverse}
use Rattle.verdicts.proofs.First.{fetching_becoming, fetching_transfers}
use Rattle.judge.specs.Kinds.{Early, here, on, Going, Joins, KindLaws}

-- in two phases the moves before the last are a chain
chain_early : (kind : Search) → kind.phases ≡ 2 → {a v : ℕ} {ms : List Move} → Chain (kind.move 0) a v ms → Early kind 0 a v ms
chain_early kind two same = here
chain_early kind two (next b r) = on b (omega arith) (omega arith) (chain_early kind two r)

early_chain : (kind : Search) → kind.phases ≡ 2 → {p a v : ℕ} {ms : List Move} → Early kind p a v ms → Chain (kind.move 0) a v ms
early_chain kind two here = same
early_chain kind two (on {q = zero} b l f r) = next b (early_chain kind two r)
early_chain kind two (on {q = suc q} b l f r) = absurd (omega arith)

-- and in one phase there are none
early_none : (kind : Search) → kind.phases ≡ 1 → {p a v : ℕ} {ms : List Move} → Early kind p a v ms → (a ≡ v) × (ms ≡ [])
early_none kind one here = (refl, refl)
early_none kind one (on b l f r) = absurd (omega arith)

push_joins : (q b c : ℕ) → Joins b c (pushing_move q b c)
push_joins zero b c = inl refl
push_joins (suc q) b c = inr (inl refl)

push_going : (a b : ℕ) (ms : List Move) → Push a b ms → Going pushing false a b ms
push_going a b ms h = record { via = h.via; front = h.transitions; rest = h.transfers; early = chain_early pushing refl h.becomes; late = h.goes; order = h.order }

going_push : (a b : ℕ) (ms : List Move) → Going pushing false a b ms → Push a b ms
going_push a b ms h = record { via = h.via; transitions = h.front; transfers = h.rest; becomes = early_chain pushing refl h.early; goes = h.late; order = h.order }

-- 0 for the transitions of the first phase, 1 for the transfers of the second
tag : ℕ → ℕ
tag zero = 0
tag (suc q) = 1

tag_rising : (q r : ℕ) → q < r → r < 2 → tag q < tag r
unfolding tag
tag_rising zero zero h l = absurd (omega arith)
tag_rising zero (suc r) h l = omega arith
tag_rising (suc q) r h l = absurd (omega arith)

push_legs : (q b c : ℕ) → leg false (pushing_move q b c) ≡ b ∷ tag q ∷ c ∷ []
unfolding tag
push_legs zero b c = refl
push_legs (suc q) b c = refl

pub push_laws : KindLaws pushing false Push
push_laws =
    record {
      some = omega arith;
      few = omega arith;
      joins = push_joins;
      ways = λ a b ms. (push_going a b ms, going_push a b ms);
      way = record { tag = tag; rising = tag_rising; legs = push_legs; turns = λ early late. (refl, refl) };
    }

pull_joins : (q b c : ℕ) → Joins b c (pulling_move q b c)
pull_joins zero b c = inl refl
pull_joins (suc q) b c = inr (inr refl)

pull_going : (a b : ℕ) (ms : List Move) → Pull a b ms → Going pulling true a b ms
pull_going a b ms h =
    record {
      via = h.via;
      front = h.transitions;
      rest = reverse h.transfers;
      early = chain_early pulling refl h.becomes;
      late = chain_reverse (λ x y. transfer y x) h.goes;
      order = h.order ∙ ap (λ us. h.transitions ++ us) (sym (reverse-reverse h.transfers));
    }

going_pull : (a b : ℕ) (ms : List Move) → Going pulling true a b ms → Pull a b ms
going_pull a b ms h = record { via = h.via; transitions = h.front; transfers = reverse h.rest; becomes = early_chain pulling refl h.early; goes = chain_reverse transfer h.late; order = h.order }

pull_legs : (q b c : ℕ) → leg true (pulling_move q b c) ≡ b ∷ tag q ∷ c ∷ []
unfolding tag
pull_legs zero b c = refl
pull_legs (suc q) b c = refl

-- transfers back turn round along the way
back_turns : {v b : ℕ} {us : List Move} → Chain (λ x y. transfer y x) v b us → (fetching (reverse us) ≡ us) × (fetching us ≡ reverse us)
back_turns {us = us} late = (
  fetching_transfers (λ x y. x) (λ x y. y) (chain_reverse transfer late) ∙ reverse-reverse us,
  fetching_transfers (λ x y. y) (λ x y. x) late,
)

pull_turns : {a v b : ℕ} {ts us : List Move} → Early pulling 0 a v ts → Chain (λ x y. transfer y x) v b us → (fetching (ts ++ reverse us) ≡ ts ++ us) × (fetching (ts ++ us) ≡ ts ++ reverse us)
pull_turns {ts = ts} {us = us} early late =
    let becomes = early_chain pulling refl early in
    let r = back_turns late in (
      fetching_becoming becomes (reverse us) ∙ ap (λ ms. ts ++ ms) r.0,
      fetching_becoming becomes us ∙ ap (λ ms. ts ++ ms) r.1,
    )

pub pull_laws : KindLaws pulling true Pull
pull_laws =
    record {
      some = omega arith;
      few = omega arith;
      joins = pull_joins;
      ways = λ a b ms. (pull_going a b ms, going_pull a b ms);
      way = record { tag = tag; rising = tag_rising; legs = pull_legs; turns = pull_turns };
    }

flow_going : (a b : ℕ) (ms : List Move) → Flow a b ms → Going flowing true a b ms
flow_going a b ms h = record { via = a; front = []; rest = reverse ms; early = here; late = chain_reverse (λ x y. transfer y x) h; order = sym (reverse-reverse ms) }

going_flow : (a b : ℕ) (ms : List Move) → Going flowing true a b ms → Flow a b ms
going_flow a b ms h =
    let e = early_none flowing refl h.early in
    let o : ms ≡ reverse h.rest = h.order ∙ ap (λ us. us ++ reverse h.rest) e.1 in
    subst (Flow a b) (sym o) (subst (λ c. Chain transfer b c (reverse h.rest)) (sym e.0) (chain_reverse transfer h.late))

flow_turns : {a v b : ℕ} {ts us : List Move} → Early flowing 0 a v ts → Chain (λ x y. transfer y x) v b us → (fetching (ts ++ reverse us) ≡ ts ++ us) × (fetching (ts ++ us) ≡ ts ++ reverse us)
flow_turns {ts = ts} {us = us} early late =
    subst (λ (xs : List Move). (fetching (xs ++ reverse us) ≡ xs ++ us) × (fetching (xs ++ us) ≡ xs ++ reverse us)) (sym (early_none flowing refl early).1) (back_turns late)

pub flow_laws : KindLaws flowing true Flow
flow_laws =
    record {
      some = omega arith;
      few = omega arith;
      joins = λ q b c. inr (inr refl);
      ways = λ a b ms. (flow_going a b ms, going_flow a b ms);
      way = record { tag = λ q. 1; rising = λ q r h l. absurd (omega arith); legs = λ q b c. refl; turns = flow_turns };
    }
