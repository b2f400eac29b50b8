-- Lists given by a function of the place.
use Rattle.std.proofs.Common.{◌≡◌, ℕ, zero, suc, ◌+◌, ◌-◌, ◌<◌, ◌≤◌, List, [], ◌∷◌, ◌++◌, map, reverse, length, get_or, take, sym, refl, ap, ap₂, ◌∙◌, subst, arith}
use lib.ListN.{length-reverse}
use Rattle.std.proofs.lemmas.List.{ext_get_or, get_or-reverse}
use Rattle.verdicts.specs.Activities.{Move, Chain, same, next}
use Rattle.verdicts.specs.Verdicts.{Pairwise, none, also}

abbrev pub tab : {X : Type 0} → (ℕ → X) → ℕ → List X
tab f zero = []
tab f (suc k) = f 0 ∷ tab (λ j. f (suc j)) k

pub length_tab : {X : Type 0} (f : ℕ → X) (k : ℕ) → length (tab f k) ≡ k
length_tab f zero = refl
length_tab f (suc k) = ap suc (length_tab (λ j. f (suc j)) k)

get_or_tab : {X : Type 0} (f : ℕ → X) (k i : ℕ) (d : X) → i < k → get_or (tab f k) i d ≡ f i
get_or_tab f zero i d h = absurd (omega arith)
get_or_tab f (suc k) zero d h = refl
get_or_tab f (suc k) (suc i) d h = get_or_tab (λ j. f (suc j)) k i d (omega arith)

pub tab_same : {X : Type 0} (f g : ℕ → X) (k : ℕ) → ((j : ℕ) → j < k → f j ≡ g j) → tab f k ≡ tab g k
tab_same f g zero h = refl
tab_same f g (suc k) h = ap₂ (λ x xs. x ∷ xs) (h 0 (omega arith)) (tab_same (λ j. f (suc j)) (λ j. g (suc j)) k (λ j b. h (suc j) (omega arith)))

-- a table in two parts
pub tab_parts : {X : Type 0} (f h : ℕ → X) (u r k : ℕ) → u + r ≡ k → ((j i : ℕ) → j < r → i ≡ u + j → f i ≡ h j) → tab f k ≡ tab f u ++ tab h r
tab_parts f h zero r k e s = let q : k ≡ r = omega arith in ap (tab f) q ∙ tab_same f h r (λ j b. s j j b (omega arith))
tab_parts f h (suc u) r zero e s = absurd (omega arith)
tab_parts f h (suc u) r (suc k) e s = ap (λ xs. f 0 ∷ xs) (tab_parts (λ j. f (suc j)) h u r k (omega arith) (λ j i b q. s j (suc i) b (omega arith)))

pub reverse_tab : {X : Type 0} (f : ℕ → X) (k : ℕ) → reverse (tab f k) ≡ tab (λ j. f (k - suc j)) k
reverse_tab f k =
    let n = length_tab f k in
    ext_get_or (f 0) (reverse (tab f k)) (tab (λ j. f (k - suc j)) k) (length-reverse (tab f k) ∙ n ∙ sym (length_tab (λ j. f (k - suc j)) k)) (λ i l.
    let b : i < k = omega (arith, length-reverse (tab f k), n) in
    let e : length (tab f k) - 1 - i ≡ k - suc i = omega (arith, n) in
    get_or-reverse (tab f k) i (f 0) (omega (arith, n)) ∙ ap (λ j. get_or (tab f k) j (f 0)) e ∙ get_or_tab f k (k - suc i) (f 0) (omega arith) ∙ sym (get_or_tab (λ j. f (k - suc j)) k i (f 0) b))

pub chain_tab : (move : ℕ → ℕ → Move) (c : ℕ → ℕ) (k : ℕ) → Chain move (c 0) (c k) (tab (λ j. move (c j) (c (suc j))) k)
chain_tab move c zero = same
chain_tab move c (suc k) = next (c 0) (chain_tab move (λ j. c (suc j)) k)

-- two tables, one after the other, beside the first members of a list
module _ {X Y Z : Type 0} (R : X → Z → Type 0) (g : Y → Z) (e : Y) where
  pairwise_tab : (f : ℕ → X) (k : ℕ) (ys : List Y) → k ≤ length ys → ((j : ℕ) → j < k → R (f j) (g (get_or ys j e))) → Pairwise R (tab f k) (map g (take k ys))
  pairwise_tab f zero ys l h = none
  pairwise_tab f (suc k) [] l h = absurd (omega arith)
  pairwise_tab f (suc k) (y ∷ ys) l h = also (h 0 (omega arith)) (pairwise_tab (λ j. f (suc j)) k ys (omega arith) (λ j b. h (suc j) (omega arith)))

  pub pairwise_two : (f h : ℕ → X) (t r k : ℕ) → t + r ≡ k → (ys : List Y) → k ≤ length ys → ((j : ℕ) → j < t → R (f j) (g (get_or ys j e))) → ((j i : ℕ) → j < r → i ≡ t + j → R (h j) (g (get_or ys i e))) → Pairwise R (tab f t ++ tab h r) (map g (take k ys))
  pairwise_two f h zero r k q ys l a b = let q' : r ≡ k = omega arith in subst (λ n. Pairwise R (tab h n) (map g (take k ys))) (sym q') (pairwise_tab h k ys l (λ j i. b j j (omega arith) (omega arith)))
  pairwise_two f h (suc t) r zero q ys l a b = absurd (omega arith)
  pairwise_two f h (suc t) r (suc k) q [] l a b = absurd (omega arith)
  pairwise_two f h (suc t) r (suc k) q (y ∷ ys) l a b = also (a 0 (omega arith)) (pairwise_two (λ j. f (suc j)) h t r k (omega arith) ys (omega arith) (λ j c. a (suc j) (omega arith)) (λ j i c d. b j (suc i) c (omega arith)))
