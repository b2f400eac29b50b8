-- A set of contexts is told by its members.
use Rattle.std.proofs.Common.{◌≡◌, ℕ, ◌+◌, ◌*◌, ◌/◌, ◌%◌, ◌^◌, ◌<◌, ◌≤◌, Bool, ◌&&◌, List, [], ◌∷◌, length, get_or, refl, sym, ap, ap₂, ◌∙◌, ⊎_elim, arith}
use Rattle.std.proofs.lemmas.Bool.{cases_lt, lt-ltb, le-ltb}
use Rattle.access.specs.Operations.{has, set_of}
use Rattle.access.specs.Contexts.{inside, member, marked}
use Rattle.access.specs.declared.context_set.ContextSet.{ContextSet}
use Rattle.access.proofs.Bits.{has_below, same_bits}
use Rattle.access.proofs.Tests.{T_false}
use Rattle.access.proofs.OperationLaws.{has_set_of}
use Rattle.access.proofs.ContextLaws.{inside_from, member_at}

-- a word of 64 bits is the set of the bits that it has
word_is : (w : ℕ) (test : ℕ → Bool) → w < 2 ^ 64 → ((o : ℕ) → o < 64 → has w o ≡ test o) → w ≡ set_of test 64
word_is w test small bits = same_bits w (set_of test 64) (λ o. ⊎_elim (λ l. low o l) (λ h. high o h) (cases_lt o 64))
  where
    low : (o : ℕ) → o < 64 → has w o ≡ has (set_of test 64) o
    low o l = bits o l ∙ sym (has_set_of test 64 o ∙ ap (λ b. b && test o) (lt-ltb o 64 l))

    high : (o : ℕ) → 64 ≤ o → has w o ≡ has (set_of test 64) o
    high o h = T_false (has w o) (λ t. omega (arith, has_below w 64 o small t)) ∙ sym (has_set_of test 64 o ∙ ap (λ b. b && test o) (le-ltb o 64 h))

-- a word of a set, from the bit of context k + 1 on
module _ (s : ContextSet) (test : ℕ → Bool) (members : (k : ℕ) → member s k ≡ (inside 256 k && test k)) where
  bit_at : (i : ℕ) → i < 256 → has (get_or s.words (i / 64) 0) (i % 64) ≡ test (i + 1)
  bit_at i l = sym (member_at s i l) ∙ members (i + 1) ∙ ap (λ b. b && test (i + 1)) (inside_from 256 (i + 1) (omega arith) (omega arith))

  bits_of : (j : ℕ) → j < 4 → (o : ℕ) → o < 64 → has (get_or s.words j 0) o ≡ test (64 * j + o + 1)
  bits_of j k o l =
      let word : (64 * j + o) / 64 ≡ j = omega arith in
      let bit : (64 * j + o) % 64 ≡ o = omega arith in
      ap₂ (λ w b. has (get_or s.words w 0) b) (sym word) (sym bit) ∙ bit_at (64 * j + o) (omega arith)

four_words : (words : List ℕ) → length words ≡ 4 → words ≡ get_or words 0 0 ∷ get_or words 1 0 ∷ get_or words 2 0 ∷ get_or words 3 0 ∷ []
four_words [] e = absurd (omega arith)
four_words (a ∷ []) e = absurd (omega arith)
four_words (a ∷ b ∷ []) e = absurd (omega arith)
four_words (a ∷ b ∷ c ∷ []) e = absurd (omega arith)
four_words (a ∷ b ∷ c ∷ d ∷ []) e = refl
four_words (a ∷ b ∷ c ∷ d ∷ x ∷ xs) e = absurd (omega arith)

pub told_by_members : (s : ContextSet) → length s.words ≡ 4 → get_or s.words 0 0 < 2 ^ 64 → get_or s.words 1 0 < 2 ^ 64 → get_or s.words 2 0 < 2 ^ 64 → get_or s.words 3 0 < 2 ^ 64
    → (test : ℕ → Bool) → ((k : ℕ) → member s k ≡ (inside 256 k && test k)) → s ≡ marked test
unfolding marked
told_by_members s long a b c d test members =
    let of_word = bits_of s test members in
    let all = four_words s.words long in
    let w = word_is (get_or s.words 0 0) (λ i. test (64 * 0 + i + 1)) a (of_word 0 (omega arith)) in
    let x = word_is (get_or s.words 1 0) (λ i. test (64 * 1 + i + 1)) b (of_word 1 (omega arith)) in
    let y = word_is (get_or s.words 2 0) (λ i. test (64 * 2 + i + 1)) c (of_word 2 (omega arith)) in
    let z = word_is (get_or s.words 3 0) (λ i. test (64 * 3 + i + 1)) d (of_word 3 (omega arith)) in
    ap (λ ws. record { words = ws }) (all ∙ ap₂ (λ p q. p ∷ q) w (ap₂ (λ p q. p ∷ q) x (ap₂ (λ p q. p ∷ q) y (ap₂ (λ p q. p ∷ q) z refl))))
