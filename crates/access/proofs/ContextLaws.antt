-- The members of a set of contexts, by its words.
use Rattle.std.proofs.Common.{◌≡◌, ℕ, zero, suc, ◌+◌, ◌-◌, ◌*◌, ◌/◌, ◌%◌, ◌^◌, ◌<◌, ◌≤◌, Bool, true, false, ◌&&◌, ◌||◌, T, eqb, ltb, List, length, get_or, set, Some, None, sym, refl, ap, ◌∙◌, subst, ap₂, ⊎_elim, arith, get_or-set_other, get_or-set_same, shr-shr, w64, div-lt_iff_lt-mul, div-le_self, pow_pos, Option}
use lib.Bits.{bit_or}
use Rattle.std.specs.Int.{trailing_zeros}
use Rattle.std.specs.Option.{is_some}
use Rattle.std.proofs.lemmas.Bool.{cases_eq, cases_lt, cases_Bool, both_ways, false_from_ne_true, eq-eqb, ne_eqb, lt-ltb, le-ltb, and_parts, and_from, and_left, and_right, or_from, or_left, or_right}
use Rattle.std.proofs.lemmas.Bool.Decides.{nat_tests}
use Rattle.std.proofs.lemmas.Nat.Bits.{bit_at_set_same, bit_at_set_other, bit_at_above, bit_at-trailing_zeros}
use Rattle.access.specs.Operations.{has}
use Rattle.access.specs.Contexts.{inside, index_of, member, some_to, has_above, FirstAbove}
use Rattle.access.specs.declared.context_set.ContextSet.{ContextSet}
use Rattle.access.proofs.Bits.{has_below}
use Rattle.access.proofs.Tests.{T_true}

-- the bit of context d
abbrev pub mark : List ℕ → ℕ → Bool
mark words d = has (get_or words ((d - 1) / 64) 0) ((d - 1) % 64)

pub inside_parts : (n d : ℕ) → inside n d ≡ true → (1 ≤ d) × (d ≤ n)
inside_parts n d h = grind (arith, nat_tests)

pub inside_from : (n d : ℕ) → 1 ≤ d → d ≤ n → inside n d ≡ true
inside_from n d h l = grind (arith, nat_tests)

pub outside_from : (n d : ℕ) → (1 ≤ d → d ≤ n → ⊥) → inside n d ≡ false
outside_from n d h = false_from_ne_true (inside n d) (λ e. let p = inside_parts n d e in h p.0 p.1)

pub index_told : (n d i : ℕ) → Some i ≡ index_of n d → (i < n) × (d ≡ i + 1)
index_told n d i e = ⊎_elim
    (λ h. let p = inside_parts n d h in let q : i ≡ d - 1 = grind arith in (omega (arith, p.0, p.1), omega (arith, p.0)))
    (λ h. grind arith)
    (cases_Bool (inside n d))

pub no_index : (n d : ℕ) → None ≡ index_of n d → inside n d ≡ false
no_index n d e = false_from_ne_true (inside n d) (λ h. grind arith)

pub member_in : (s : ContextSet) (d : ℕ) → 1 ≤ d → d ≤ 256 → member s d ≡ mark s.words d
unfolding member
member_in s d h l = ap (λ (b : Bool). b && mark s.words d) (inside_from 256 d h l)

pub member_out : (s : ContextSet) (d : ℕ) → (1 ≤ d → d ≤ 256 → ⊥) → member s d ≡ false
unfolding member
member_out s d n = ap (λ (b : Bool). b && mark s.words d) (outside_from 256 d n)

-- what has a member is a number from 1 to 256
pub member_inside : (s : ContextSet) (d : ℕ) → member s d ≡ true → (1 ≤ d) × (d ≤ 256)
unfolding member
member_inside s d e = inside_parts 256 d (and_parts (inside 256 d) (mark s.words d) e).0

-- two ways: d is a context or not
by_range : (P : Type 0) (d : ℕ) → (1 ≤ d → d ≤ 256 → P) → ((1 ≤ d → d ≤ 256 → ⊥) → P) → P
by_range P d within without =
    ⊎_elim
    (λ e. let p = inside_parts 256 d e in within p.0 p.1)
    (λ e. without (λ h l. both_ways (inside 256 d) e (inside_from 256 d h l)))
    (cases_Bool (inside 256 d))

pub member_no : (s : ContextSet) (d : ℕ) → (1 ≤ d → d ≤ 256 → mark s.words d ≡ false) → member s d ≡ false
member_no s d z = by_range (member s d ≡ false) d (λ h l. member_in s d h l ∙ z h l) (λ n. member_out s d n)

pub member_off : (s : ContextSet) (d : ℕ) → None ≡ index_of 256 d → false ≡ member s d
unfolding member
member_off s d e = sym (and_left (inside 256 d) (mark s.words d) (no_index 256 d e))

pub member_at : (s : ContextSet) (i : ℕ) → i < 256 → member s (i + 1) ≡ has (get_or s.words (i / 64) 0) (i % 64)
member_at s i h =
    let e : i + 1 - 1 ≡ i = omega arith in
    member_in s (i + 1) (omega arith) (omega arith) ∙ ap (λ k. has (get_or s.words (k / 64) 0) (k % 64)) e

-- four places
pub four : (P : ℕ → Type 0) → P 0 → P 1 → P 2 → P 3 → (k : ℕ) → k < 4 → P k
four P a b c d zero h = a
four P a b c d (suc zero) h = b
four P a b c d (suc (suc zero)) h = c
four P a b c d (suc (suc (suc zero))) h = d
four P a b c d (suc (suc (suc (suc k)))) h = absurd (omega arith)

-- a set that is made of two, word by word, where that is told bit by bit
module _ (op : ℕ → ℕ → ℕ) (test : Bool → Bool → Bool) (law : (a b o : ℕ) → has (op a b) o ≡ test (has a o) (has b o)) (none : test false false ≡ false) where
  pub member_by : (r s t : ContextSet) → ((k : ℕ) → k < 4 → get_or r.words k 0 ≡ op (get_or s.words k 0) (get_or t.words k 0)) → (d : ℕ) → member r d ≡ test (member s d) (member t d)
  member_by r s t w d =
      by_range (member r d ≡ test (member s d) (member t d)) d
      (λ h l.
      let e = w ((d - 1) / 64) (omega arith) in
      let b = law (get_or s.words ((d - 1) / 64) 0) (get_or t.words ((d - 1) / 64) 0) ((d - 1) % 64) in
      member_in r d h l ∙ ap (λ x. has x ((d - 1) % 64)) e ∙ b ∙ ap₂ test (sym (member_in s d h l)) (sym (member_in t d h l)))
      (λ n. member_out r d n ∙ sym none ∙ ap₂ test (sym (member_out s d n)) (sym (member_out t d n)))

-- ---- a context more

-- the words with bit i set
abbrev with_bit : List ℕ → ℕ → List ℕ
with_bit words i = set words (i / 64) (bit_or (get_or words (i / 64) 0) (1 * 2 ^ (i % 64) % 2 ^ 64))

mark_with : (words : List ℕ) (i d : ℕ) → length words ≡ 4 → i < 256 → 1 ≤ d → mark (with_bit words i) d ≡ (eqb d (i + 1) || mark words d)
mark_with words i d len lt low = ⊎_elim
    (λ (e : d ≡ i + 1).
    let k : d - 1 ≡ i = omega arith in
    ap (λ x. has (get_or (with_bit words i) (x / 64) 0) (x % 64)) k ∙ ap (λ x. has x (i % 64)) own ∙ ap (λ x. eqb x 1) (bit_at_set_same w64 word (i % 64) (omega arith)) ∙ sym (or_left (eqb d (i + 1)) (mark words d) (eq-eqb d (i + 1) e)))
    (λ (n : d ≡ i + 1 → ⊥). other n ∙ sym (ap (λ b. b || mark words d) (ne_eqb d (i + 1) n)))
    (cases_eq d (i + 1))
  where
    word : ℕ
    word = get_or words (i / 64) 0

    own : get_or (with_bit words i) (i / 64) 0 ≡ bit_or word (1 * 2 ^ (i % 64) % 2 ^ 64)
    own = get_or-set_same words (i / 64) (bit_or word (1 * 2 ^ (i % 64) % 2 ^ 64)) 0 (omega arith)

    other : (d ≡ i + 1 → ⊥) → mark (with_bit words i) d ≡ mark words d
    other n = ⊎_elim
        (λ (q : (d - 1) / 64 ≡ i / 64).
        ap (λ k. has (get_or (with_bit words i) k 0) ((d - 1) % 64)) q ∙ ap (λ x. has x ((d - 1) % 64)) own
        ∙ ap (λ x. eqb x 1) (bit_at_set_other w64 word (i % 64) (omega arith) ((d - 1) % 64) (λ z. n (omega arith)))
        ∙ ap (λ k. has (get_or words k 0) ((d - 1) % 64)) (sym q))
        (λ q. ap (λ x. has x ((d - 1) % 64)) (get_or-set_other words (i / 64) ((d - 1) / 64) (bit_or word (1 * 2 ^ (i % 64) % 2 ^ 64)) 0 q))
        (cases_eq ((d - 1) / 64) (i / 64))

pub member_with : (r s : ContextSet) (c i : ℕ) → Some i ≡ index_of 256 c → length s.words ≡ 4 → r.words ≡ with_bit s.words i → (d : ℕ) → member r d ≡ ((inside 256 c && eqb d c) || member s d)
member_with r s c i told len e d =
    let p = index_told 256 c i told in
    let is_in : inside 256 c ≡ true = inside_from 256 c (omega (arith, p.1)) (omega (arith, p.0, p.1)) in
    by_range (member r d ≡ ((inside 256 c && eqb d c) || member s d)) d
    (λ h l. member_in r d h l ∙ ap (λ ws. mark ws d) e ∙ mark_with s.words i d len p.0 h ∙ ap₂ (λ b m. b || m) (ap (eqb d) (sym p.1) ∙ sym (ap (λ b. b && eqb d c) is_in)) (sym (member_in s d h l)))
    (λ n. member_out r d n ∙ sym (or_from (inside 256 c && eqb d c) (member s d) (and_right (inside 256 c) (eqb d c) (ne_eqb d c (λ q. n (omega (arith, p.1)) (omega (arith, p.0, p.1))))) (member_out s d n)))

-- ---- what is asked of a set

some_yes : (n : ℕ) (p : ℕ → Bool) (d : ℕ) → 1 ≤ d → d ≤ n → p d ≡ true → some_to n p ≡ true
unfolding some_to
some_yes zero p d h l e = absurd (omega arith)
some_yes (suc n) p d h l e =
    ⊎_elim
    (λ (q : d ≡ suc n). or_left (p (suc n)) (some_to n p) (ap p (sym q) ∙ e))
    (λ (q : d ≡ suc n → ⊥). or_right (p (suc n)) (some_to n p) (some_yes n p d h (omega arith) e))
    (cases_eq d (suc n))

some_no : (n : ℕ) (p : ℕ → Bool) → ((d : ℕ) → p d ≡ false) → some_to n p ≡ false
unfolding some_to
some_no zero p h = refl
some_no (suc n) p h = or_from (p (suc n)) (some_to n p) (h (suc n)) (some_no n p h)

-- the words before i have no member above n
abbrev pub NoneBefore : ℕ → ContextSet → ℕ → Type 0
NoneBefore n s i = (d : ℕ) → n < d → d ≤ 64 * i → member s d ≡ false

pub none_to_start : (n : ℕ) (s : ContextSet) → NoneBefore n s (n / 64)
none_to_start n s d l m = absurd (omega (arith, l, m))

module _ (n : ℕ) (s : ContextSet) (i : ℕ) (before : NoneBefore n s i) where
  abbrev word : ℕ
  word = get_or s.words i 0

  -- a context that is above n and up to bit j of word i
  none_to : (j : ℕ) → ((k : ℕ) → n - 64 * i ≤ k → k < j → has word k ≡ false) → j ≤ 64 → (d : ℕ) → n < d → d ≤ 64 * i + j → member s d ≡ false
  none_to j none few d l m =
      ⊎_elim
      (λ (h : 64 * i < d).
      let e : (d - 1) / 64 ≡ i = omega arith in
      member_no s d (λ low high. ap (λ k. has (get_or s.words k 0) ((d - 1) % 64)) e ∙ none ((d - 1) % 64) (omega arith) (omega arith)))
      (λ (h : d ≤ 64 * i). before d l h)
      (cases_lt (64 * i) d)

  pub none_through : ((k : ℕ) → n - 64 * i ≤ k → has word k ≡ false) → NoneBefore n s (i + 1)
  none_through none d l m = none_to 64 (λ k h _. none k h) (omega arith) d l (omega (arith, m))

  pub first_told : (j : ℕ) → i < 4 → n - 64 * i ≤ j → j < 64 → has word j ≡ true → ((k : ℕ) → n - 64 * i ≤ k → k < j → has word k ≡ false) → FirstAbove n s (Some (64 * i + j + 1))
  first_told j low from few h none =
      let w : (64 * i + j) / 64 ≡ i = omega arith in
      let z : (64 * i + j) % 64 ≡ j = omega arith in (
        omega arith,
        member_at s (64 * i + j) (omega arith) ∙ ap₂ (λ k b. has (get_or s.words k 0) b) w z ∙ h,
        λ d l m. none_to j none (omega arith) d l (omega arith),
      )

-- past the last word there is no member
pub none_at_all : (n : ℕ) (s : ContextSet) (i : ℕ) → 4 ≤ i → NoneBefore n s i → FirstAbove n s None
none_at_all n s i past before d l = member_no s d (λ low high. sym (member_in s d low high) ∙ before d l (omega arith))

-- whether there is a first one
pub some_above : (n : ℕ) (s : ContextSet) (r : Option ℕ) → FirstAbove n s r → is_some r ≡ has_above n s
some_above n s None none =
    sym (some_no 256 (λ c. ltb n c && member s c) (λ d.
    ⊎_elim
    (λ (l : n < d). and_right (ltb n d) (member s d) (none d l))
    (λ (g : d ≤ n). and_left (ltb n d) (member s d) (le-ltb n d g))
    (cases_lt n d)))
some_above n s (Some c) first =
    let k = member_inside s c first.1 in
    sym (some_yes 256 (λ d. ltb n d && member s d) c k.0 k.1 (and_from _ _ (lt-ltb n c first.0) first.1))

-- where no member is above n, each is a context
pub none_above : (n : ℕ) (s : ContextSet) → has_above n s ≡ false → (c : ℕ) → T (member s c) → T (inside n c)
none_above n s e c h =
    let m : member s c ≡ true = T_true (member s c) h in
    let k = member_inside s c m in
    ⊎_elim
    (λ (l : n < c). absurd (both_ways (has_above n s) e (some_yes 256 (λ d. ltb n d && member s d) c k.0 k.1 (and_from _ _ (lt-ltb n c l) m))))
    (λ (g : c ≤ n). subst T (sym (inside_from n c k.0 g)) tt)
    (cases_lt n c)

-- each number from 1 is above 0
pub above_zero : (n : ℕ) (p q : ℕ → Bool) → ((d : ℕ) → p d ≡ q d) → some_to n (λ c. ltb 0 c && p c) ≡ some_to n q
unfolding some_to
above_zero zero p q h = refl
above_zero (suc n) p q h = ap₂ (λ a b. a || b) (ap (λ b. b && p (suc n)) (lt-ltb 0 (suc n) (omega arith)) ∙ h (suc n)) (above_zero n p q h)

-- ---- bits from a place on

pub low_none : (w k : ℕ) → w < 2 ^ k → (j : ℕ) → k ≤ j → has w j ≡ false
low_none w k f j l = ap (λ x. eqb x 1) (bit_at_above w k j f l)

pub none_from : (w k : ℕ) → w / 2 ^ k ≡ 0 → (j : ℕ) → k ≤ j → has w j ≡ false
none_from w k e = low_none w k (omega (arith, (div-lt_iff_lt-mul {k = 2 ^ k} {x = w} {y = 1} (pow_pos k)).0 (omega (arith, e))))

shifted : (w k o : ℕ) → has (w / 2 ^ k) o ≡ has w (k + o)
shifted w k o = ap (λ x. eqb (x % 2) 1) (shr-shr w k o)

-- the lowest of them, by trailing zeros
pub lowest_told_from : (w k : ℕ) → w < 2 ^ 64 → (w / 2 ^ k ≡ 0 → ⊥) → let i = k + trailing_zeros w64 (w / 2 ^ k) in
    (k ≤ i) × (i < 64) × (has w i ≡ true) × ((j : ℕ) → k ≤ j → j < i → has w j ≡ false)
lowest_told_from w k f h =
    let t : ℕ = trailing_zeros w64 (w / 2 ^ k) in
    let b = bit_at-trailing_zeros w64 (w / 2 ^ k) (omega arith) (omega (arith, div-le_self w (2 ^ k))) in
    let held : has w (k + t) ≡ true = sym (shifted w k t) ∙ ap (λ x. eqb x 1) b.1 in (
      omega arith,
      has_below w 64 (k + t) f (subst T (sym held) tt),
      held,
      λ j l m.
          let e : k + (j - k) ≡ j = omega arith in
          sym (shifted w k (j - k) ∙ ap (has w) e) ∙ ap (λ x. eqb x 1) (b.2 (j - k) (omega arith)),
    )
