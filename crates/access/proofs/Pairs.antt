-- How many pairs are filled after the set of one is replaced.
use Rattle.std.proofs.Common.{◌≡◌, ℕ, zero, suc, ◌+◌, ◌≤◌, ◌⊎◌, sym, refl, ap, ◌∙◌, ap₂, inl, inr, ⊎_elim, arith}
use Rattle.std.proofs.lemmas.Bool.{cases_eq}
use Rattle.std.proofs.lemmas.Bool.Decides.{nat_tests}
use Rattle.access.specs.Policy.{Matrix, with_pair}
use Rattle.access.specs.Sound.{some, row, pairs}

pub with_same : (w : Matrix) (s t v : ℕ) → with_pair w s t v s t ≡ v
with_same w s t v = grind (arith, nat_tests)

pub with_other : (w : Matrix) (s t v x y : ℕ) → (x ≡ s → ⊥) ⊎ (y ≡ t → ⊥) → with_pair w s t v x y ≡ w x y
with_other w s t v x y h = grind (arith, nat_tests)

-- ---- a row and all rows are totals from 1 on

abbrev total : (ℕ → ℕ) → ℕ → ℕ
total f zero = 0
total f (suc n) = total f n + f (suc n)

row_is : (w : Matrix) (s n : ℕ) → row w s n ≡ total (λ t. some (w s t)) n
unfolding row
row_is w s zero = refl
row_is w s (suc n) = ap (λ a. a + some (w s (suc n))) (row_is w s n)

pairs_is : (w : Matrix) (k n : ℕ) → pairs w k n ≡ total (λ s. row w s n) k
unfolding pairs
pairs_is w zero n = refl
pairs_is w (suc k) n = ap (λ a. a + row w (suc k) n) (pairs_is w k n)

total_alike : (f g : ℕ → ℕ) (n : ℕ) → ((y : ℕ) → 1 ≤ y → y ≤ n → f y ≡ g y) → total f n ≡ total g n
total_alike f g zero h = refl
total_alike f g (suc n) h = ap₂ (λ a b. a + b) (total_alike f g n (λ y l k. h y l (omega arith))) (h (suc n) (omega arith) (omega arith))

-- where one place alone differs
total_with : (f g : ℕ → ℕ) (t n : ℕ) → 1 ≤ t → t ≤ n → ((y : ℕ) → (y ≡ t → ⊥) → f y ≡ g y) → total f n + g t ≡ total g n + f t
total_with f g t zero low high h = absurd (omega arith)
total_with f g t (suc n) low high h = ⊎_elim
    (λ (e : t ≡ suc n). let front = total_alike f g n (λ y _ k. h y (λ p. omega arith)) in rw e (omega (arith, front)))
    (λ (ne : t ≡ suc n → ⊥). omega (arith, total_with f g t n low (omega arith) h, h (suc n) (λ p. ne (sym p))))
    (cases_eq t (suc n))

total_none : (f : ℕ → ℕ) (n : ℕ) → ((y : ℕ) → f y ≡ 0) → total f n ≡ 0
total_none f zero h = refl
total_none f (suc n) h = omega (arith, total_none f n h, h (suc n))

total_most : (f : ℕ → ℕ) (t n : ℕ) → 1 ≤ t → t ≤ n → f t ≤ total f n
total_most f t zero low high = absurd (omega arith)
total_most f t (suc n) low high = ⊎_elim (λ e. rw e (omega arith)) (λ ne. omega (arith, total_most f t n low (omega arith))) (cases_eq t (suc n))

-- ---- what a row and all rows have depends on their places from 1 on alone

pub row_alike : (w u : Matrix) (x n : ℕ) → ((y : ℕ) → 1 ≤ y → y ≤ n → w x y ≡ u x y) → row w x n ≡ row u x n
row_alike w u x n h = row_is w x n ∙ total_alike _ _ n (λ y l k. ap some (h y l k)) ∙ sym (row_is u x n)

pub pairs_alike : (w u : Matrix) (k n : ℕ) → ((x y : ℕ) → 1 ≤ x → x ≤ k → 1 ≤ y → y ≤ n → w x y ≡ u x y) → pairs w k n ≡ pairs u k n
pairs_alike w u k n h = pairs_is w k n ∙ total_alike _ _ k (λ x a b. row_alike w u x n (λ y c d. h x y a b c d)) ∙ sym (pairs_is u k n)

pub row_with : (w : Matrix) (s t v n : ℕ) → 1 ≤ t → t ≤ n → row (with_pair w s t v) s n + some (w s t) ≡ row w s n + some v
row_with w s t v n low high =
    let new : Matrix = with_pair w s t v in
    let h = total_with (λ y. some (new s y)) (λ y. some (w s y)) t n low high (λ y ne. ap some (with_other w s t v s y (inr ne))) in
    omega (arith, row_is new s n, row_is w s n, h, ap some (with_same w s t v))

pub pairs_with : (w : Matrix) (s t v k n : ℕ) → 1 ≤ s → s ≤ k → 1 ≤ t → t ≤ n → pairs (with_pair w s t v) k n + some (w s t) ≡ pairs w k n + some v
pairs_with w s t v k n low high from to =
    let new : Matrix = with_pair w s t v in
    let h = total_with (λ x. row new x n) (λ x. row w x n) s k low high (λ x ne. row_alike new w x n (λ y _ _. with_other w s t v x y (inl ne))) in
    omega (arith, pairs_is new k n, pairs_is w k n, h, row_with w s t v n from to)

-- with no set written no pair is filled
pub row_none : (w : Matrix) (x n : ℕ) → ((y : ℕ) → w x y ≡ 0) → row w x n ≡ 0
row_none w x n h = row_is w x n ∙ total_none _ n (λ y. ap some (h y))

pub pairs_none : (w : Matrix) (k n : ℕ) → ((x y : ℕ) → w x y ≡ 0) → pairs w k n ≡ 0
pairs_none w k n h = pairs_is w k n ∙ total_none _ k (λ x. row_none w x n (h x))

-- a subject has no more pairs than there are
pub row_most : (w : Matrix) (s k n : ℕ) → 1 ≤ s → s ≤ k → row w s n ≤ pairs w k n
row_most w s k n low high = rw (pairs_is w k n) (total_most (λ x. row w x n) s k low high)
