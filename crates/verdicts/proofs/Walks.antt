-- Walks and activities: a realised activity is a walk of as many moves, and a walk never needs more moves than there are
-- contexts.
use Rattle.std.proofs.Common.{◌≡◌, ℕ, zero, suc, ◌+◌, ◌<◌, ◌≤◌, Bool, true, false, cond, not, ◌&&◌, T, eqb, ◌⊎◌, List, [], ◌∷◌, ◌++◌, reverse, length, sym, refl, ap, ◌∙◌, subst, inl, inr, ⊎_elim, arith, length-append}
use lib.Dec.{eqb_refl}
use lib.ListN.{length-reverse}
use Rattle.std.specs.List.{AllByRecursion}
use Rattle.std.proofs.lemmas.Bool.{cases_eq, ne_eqb}
use Rattle.std.proofs.ByRecursion.{All-append}
use Rattle.verdicts.specs.Activities.{Move, transfer, Chain, same, next, Push, Pull, Flow}
use Rattle.verdicts.specs.Searches.{Search, pushing, pulling, flowing}
use Rattle.access.proofs.Tests.{both_parts, T_true}
use Rattle.verdicts.proofs.Chains.{all_front, all_back, all_reverse, chain_reverse}

-- a walk of makeable moves, from a context in a phase on to a context, by its number of moves; all its contexts are `ok`
pub data Walk (kind : Search) (makeable : Move → Bool) (ok : ℕ → Bool) : ℕ → ℕ → ℕ → ℕ → Type 0 where
  stop : {p c : ℕ} → T (ok c) → Walk kind makeable ok p c c 0
  go : {p c d k : ℕ} (q b : ℕ) → p ≤ q → q < kind.phases → T (ok b) → T (makeable (kind.move q b c)) → Walk kind makeable ok q c d k → Walk kind makeable ok p b d (suc k)

-- ---- counting the contexts that are still free

abbrev one_if : Bool → ℕ
one_if b = cond b 1 0

abbrev pub size : (ℕ → Bool) → ℕ → ℕ
size ok zero = one_if (ok 0)
size ok (suc n) = one_if (ok (suc n)) + size ok n

abbrev pub minus : (ℕ → Bool) → ℕ → ℕ → Bool
minus ok x c = ok c && not (eqb c x)

minus_here : (ok : ℕ → Bool) (x : ℕ) → minus ok x x ≡ false
minus_here ok x = go (ok x) (eqb x x) (eqb_refl x)
  where
    go : (a b : Bool) → T b → (a && not b) ≡ false
    go true true h = refl
    go true false h = elim h [ ]
    go false b h = refl

minus_there : (ok : ℕ → Bool) (x c : ℕ) → (c ≡ x → ⊥) → minus ok x c ≡ ok c
minus_there ok x c n = rw (ne_eqb c x n) (go (ok c))
  where
    go : (a : Bool) → (a && true) ≡ a
    go true = refl
    go false = refl

size_same : (ok : ℕ → Bool) (x n : ℕ) → n < x → size (minus ok x) n ≡ size ok n
size_same ok x zero h = ap one_if (minus_there ok x 0 (λ e. omega arith))
size_same ok x (suc n) h = let e = ap one_if (minus_there ok x (suc n) (λ e. omega arith)) in let f = size_same ok x n (omega arith) in omega arith

one_most : (b : Bool) → one_if b ≤ 1
one_most true = omega arith
one_most false = omega arith

pub size_most : (ok : ℕ → Bool) (n : ℕ) → size ok n ≤ suc n
size_most ok zero = one_most (ok 0)
size_most ok (suc n) = omega (arith, one_most (ok (suc n)), size_most ok n)

one_here : (ok : ℕ → Bool) (x c : ℕ) → c ≡ x → T (ok x) → (one_if (minus ok x c) ≡ 0) × (one_if (ok c) ≡ 1)
one_here ok x c e p = (ap one_if (ap (minus ok x) e ∙ minus_here ok x), ap one_if (ap ok e ∙ T_true (ok x) p))

size_minus : (ok : ℕ → Bool) (x n : ℕ) → x ≤ n → T (ok x) → size (minus ok x) n + 1 ≡ size ok n
size_minus ok x zero h p = let r = one_here ok x 0 (omega arith) p in omega arith
size_minus ok x (suc n) h p =
    ⊎_elim
    (λ e. let r = one_here ok x (suc n) e p in let f = size_same ok x n (omega arith) in omega arith)
    (λ e. let r = ap one_if (minus_there ok x (suc n) e) in let f = size_minus ok x n (omega arith) p in omega arith)
    (cases_eq (suc n) x)

-- ---- a walk that comes back to a context can leave it for good the first time

module _ (kind : Search) (makeable : Move → Bool) where
  pub sooner : {ok : ℕ → Bool} {q c d k : ℕ} (p : ℕ) → p ≤ q → Walk kind makeable ok q c d k → Walk kind makeable ok p c d k
  sooner p h (stop o) = stop o
  sooner p h (go q b l f o v w) = go q b (omega arith) f o v w

  -- from x in phase p to d, never coming back to x
  data Leaves (ok : ℕ → Bool) (x p d : ℕ) : Type 0 where
    at_end : x ≡ d → Leaves ok x p d
    by_move : (q c k : ℕ) → p ≤ q → q < kind.phases → T (makeable (kind.move q x c)) → Walk kind makeable (minus ok x) q c d k → Leaves ok x p d

  leaves_sooner : {ok : ℕ → Bool} {x q d : ℕ} (p : ℕ) → p ≤ q → Leaves ok x q d → Leaves ok x p d
  leaves_sooner p h (at_end e) = at_end e
  leaves_sooner p h (by_move q c k l f v w) = by_move q c k (omega arith) f v w

  away : (ok : ℕ → Bool) (x c : ℕ) → (c ≡ x → ⊥) → T (ok c) → T (minus ok x c)
  away ok x c n h = subst T (sym (minus_there ok x c n)) h

  leave : (ok : ℕ → Bool) (x : ℕ) {p c d k : ℕ} → Walk kind makeable ok p c d k → Walk kind makeable (minus ok x) p c d k ⊎ Leaves ok x p d
  leave ok x (stop {c = c} o) = ⊎_elim (λ e. inr (at_end (sym e))) (λ n. inl (stop (away ok x c n o))) (cases_eq c x)
  leave ok x {p} {d = d} (go {c = c} {k = k} q b l f o v w) =
      ⊎_elim
      (λ w'. ⊎_elim
      (λ e. inr (by_move q c k l f (subst (λ y. T (makeable (kind.move q y c))) e v) w'))
      (λ n. inl (go q b l f (away ok x b n o) v w'))
      (cases_eq b x))
      (λ r. inr (leaves_sooner p l r))
      (leave ok x w)

  pub record Short (n p c d : ℕ) : Type 0 where
    pub moves : ℕ
    pub few : moves < n
    pub walk : Walk kind makeable (λ x. true) p c d moves

  start_ok : {ok : ℕ → Bool} {p c d k : ℕ} → Walk kind makeable ok p c d k → T (ok c)
  start_ok (stop o) = o
  start_ok (go q b l f o v w) = o

  finish : {ok : ℕ → Bool} {c p d : ℕ} (free : ℕ) → ((q c' k : ℕ) → Walk kind makeable (minus ok c) q c' d k → Short free q c' d) → Leaves ok c p d → Short (suc free) p c d
  finish {c = c} {p = p} free rec (at_end e) = record { moves = 0; few = omega arith; walk = subst (λ y. Walk kind makeable (λ x. true) p c y 0) e (stop tt) }
  finish {c = c} free rec (by_move q c' k l f v w) = let r = rec q c' k w in record { moves = suc r.moves; few = omega (arith, r.few); walk = go q c l f tt v r.walk }

  -- a walk over contexts up to n can be cut short to fewer moves than there are contexts
  pub shorten : (free n : ℕ) (ok : ℕ → Bool) → ((c : ℕ) → T (ok c) → c ≤ n) → size ok n ≤ free → (p c d k : ℕ) → Walk kind makeable ok p c d k → Short free p c d
  shorten zero n ok in_n s p c d k w = let o = start_ok w in let e = size_minus ok c n (in_n c o) o in absurd (omega arith)
  shorten (suc free) n ok in_n s p c d k w =
      let o = start_ok w in
      let e = size_minus ok c n (in_n c o) o in
      let small : size (minus ok c) n ≤ free = omega arith in
      ⊎_elim
      (λ w'. absurd (subst T (minus_here ok c) (start_ok w')))
      (finish free (λ q c' j w'. shorten free n (minus ok c) (λ x h. in_n x (both_parts (ok x) (not (eqb x c)) h).0) small q c' d j w'))
      (leave ok c w)

  -- ---- walks and chains

  abbrev Every : List Move → Type 0
  Every ms = AllByRecursion (λ v. T (makeable v)) ms

  abbrev any : ℕ → Bool
  any c = true

  pub chain_walk : (q : ℕ) → q < kind.phases → {c v : ℕ} {ms : List Move} → Chain (kind.move q) c v ms → Every ms → (d k : ℕ) → Walk kind makeable any q v d k → Walk kind makeable any q c d (length ms + k)
  chain_walk q f {c} same h d k w = let e : k ≡ 0 + k = omega arith in subst (λ x. Walk kind makeable any q c d x) e w
  chain_walk q f (next {c = c} {ms = ms} b r) h d k w =
      let e : suc (length ms + k) ≡ suc (length ms) + k = omega arith in
      subst (λ x. Walk kind makeable any q b d x) e (go q b (omega arith) f tt h.0 (chain_walk q f r h.1 d k w))

  -- a walk in the last phase is a chain
  pub record Chained (q c d k : ℕ) : Type 0 where
    pub moves : List Move
    pub chain : Chain (kind.move q) c d moves
    pub every : Every moves
    pub count : length moves ≡ k

  pub walk_chain : (q : ℕ) → suc q ≡ kind.phases → {ok : ℕ → Bool} {p c d k : ℕ} → q ≤ p → Walk kind makeable ok p c d k → Chained q c d k
  walk_chain q f l (stop o) = record { moves = []; chain = same; every = tt; count = refl }
  walk_chain q f l (go {c = c} q' b l' f' o v w) =
      let r = walk_chain q f (omega arith) w in
      let e : q' ≡ q = omega arith in
      record { moves = kind.move q b c ∷ r.moves; chain = next b r.chain; every = (subst (λ x. T (makeable (kind.move x b c))) e v, r.every); count = ap suc r.count }

  -- a walk in two phases is two chains
  pub record Split (a d k : ℕ) : Type 0 where
    pub via : ℕ
    pub front : List Move
    pub back : List Move
    pub first : Chain (kind.move 0) a via front
    pub second : Chain (kind.move 1) via d back
    pub every_front : Every front
    pub every_back : Every back
    pub count : length front + length back ≡ k

  pub walk_split : 2 ≡ kind.phases → {ok : ℕ → Bool} {c d k : ℕ} → Walk kind makeable ok 0 c d k → Split c d k
  walk_split two {c = c} (stop o) = record { via = c; front = []; back = []; first = same; second = same; every_front = tt; every_back = tt; count = refl }
  walk_split two (go {c = c} zero b l f o v w) =
      let r = walk_split two w in
      record { via = r.via; front = kind.move 0 b c ∷ r.front; back = r.back; first = next b r.first; second = r.second; every_front = (v, r.every_front); every_back = r.every_back; count = omega (arith, r.count) }
  walk_split two {d = d} (go {c = c} {k = k} (suc q) b l f o v w) =
      let r = walk_chain 1 two {p = 1} (omega arith) (go (suc q) b (omega arith) f o v w) in
      record { via = b; front = []; back = r.moves; first = same; second = r.chain; every_front = tt; every_back = r.every; count = omega (arith, r.count) }

-- ---- push, pull and flow are walks

module _ (makeable : Move → Bool) where
  abbrev each : List Move → Type 0
  each ms = AllByRecursion (λ v. T (makeable v)) ms

  -- an activity of makeable moves, by their number
  pub record MakesIn (Activity : List Move → Type 0) (k : ℕ) : Type 0 where
    pub moves : List Move
    pub activity : Activity moves
    pub every : each moves
    pub count : length moves ≡ k

  abbrev TwoWalk : Search → ℕ → ℕ → ℕ → Type 0
  TwoWalk kind a b k = Walk kind makeable (λ c. true) 0 a b k

  pub push_walk : (a b : ℕ) (ms : List Move) → Push a b ms → each ms → TwoWalk pushing a b (length ms)
  push_walk a b ms act h =
      let ts = act.transitions in
      let us = act.transfers in
      let h' : each (ts ++ us) = subst each act.order h in
      let w = chain_walk pushing makeable 1 (omega arith) {ms = us} act.goes (all_back _ ts us h') b 0 (stop tt) in
      let e : length ts + (length us + 0) ≡ length ms = omega (arith, ap length act.order ∙ length-append ts us) in
      subst (TwoWalk pushing a b) e (chain_walk pushing makeable 0 (omega arith) act.becomes (all_front _ ts us h') b (length us + 0) (sooner pushing makeable 0 (omega arith) w))

  pub walk_push : (a b k : ℕ) → TwoWalk pushing a b k → MakesIn (Push a b) k
  walk_push a b k w =
      let r = walk_split pushing makeable refl w in
      record { moves = r.front ++ r.back; activity = record { via = r.via; transitions = r.front; transfers = r.back; becomes = r.first; goes = r.second; order = refl }; every = All-append _ r.front r.back r.every_front r.every_back; count = length-append r.front r.back ∙ r.count }

  pub pull_walk : (a b : ℕ) (ms : List Move) → Pull a b ms → each ms → TwoWalk pulling a b (length ms)
  pull_walk a b ms act h =
      let ts = act.transitions in
      let us = act.transfers in
      let h' : each (ts ++ us) = subst each act.order h in
      let w = chain_walk pulling makeable 1 (omega arith) (chain_reverse (λ x y. transfer y x) act.goes) (all_reverse _ us (all_back _ ts us h')) b 0 (stop tt) in
      let e : length ts + (length (reverse us) + 0) ≡ length ms = omega (arith, ap length act.order ∙ length-append ts us, length-reverse us) in
      subst (TwoWalk pulling a b) e (chain_walk pulling makeable 0 (omega arith) act.becomes (all_front _ ts us h') b (length (reverse us) + 0) (sooner pulling makeable 0 (omega arith) w))

  pub walk_pull : (a b k : ℕ) → TwoWalk pulling a b k → MakesIn (Pull a b) k
  walk_pull a b k w =
      let r = walk_split pulling makeable refl w in
      let us = reverse r.back in
      record { moves = r.front ++ us; activity = record { via = r.via; transitions = r.front; transfers = us; becomes = r.first; goes = chain_reverse transfer r.second; order = refl }; every = All-append _ r.front us r.every_front (all_reverse _ r.back r.every_back); count = omega (arith, length-append r.front us, length-reverse r.back, r.count) }

  pub flow_walk : (a b : ℕ) (ms : List Move) → Flow a b ms → each ms → TwoWalk flowing a b (length ms)
  flow_walk a b ms act h =
      let w = chain_walk flowing makeable 0 (omega arith) (chain_reverse (λ x y. transfer y x) act) (all_reverse _ ms h) b 0 (stop tt) in
      let e : length (reverse ms) + 0 ≡ length ms = omega (arith, length-reverse ms) in
      subst (TwoWalk flowing a b) e w

  pub walk_flow : (a b k : ℕ) → TwoWalk flowing a b k → MakesIn (Flow a b) k
  walk_flow a b k w =
      let r = walk_chain flowing makeable 0 refl (omega arith) w in
      record { moves = reverse r.moves; activity = chain_reverse transfer r.chain; every = all_reverse _ r.moves r.every; count = length-reverse r.moves ∙ r.count }
