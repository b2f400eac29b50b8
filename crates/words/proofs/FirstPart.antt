-- The first part of a list of bytes, and the parts behind it.
use Rattle.std.proofs.Common.{◌≡◌, ℕ, ◌+◌, ◌-◌, ◌<◌, ◌≤◌, true, false, not, List, [], ◌∷◌, ◌==◌, nat_le, length, take, drop, refl, ap, ◌∙◌, inl, inr, ◌⊎◌, arith, unwrap_or, position}
use Rattle.std.specs.List.{position_or_len}
use Rattle.std.proofs.lemmas.List.Splits.{slice_split_first, slice_split_none}
use Rattle.std.proofs.lemmas.List.Sums.{prefix_len-le-length, fails_before_first}
use Rattle.std.proofs.lemmas.Bool.{cases_lt}
use Rattle.std.proofs.lemmas.List.{take_all, length-drop, length-take-le, drop-drop}
use Rattle.std.proofs.lemmas.Bool.Decides.{nat_tests}
use Rattle.words.specs.Parts.{parts}
use Rattle.words.specs.Words.{placed}
use Rattle.words.specs.Left.{words_from}

module _ (mark : ℕ) (bytes : List ℕ) where
  pub length_to : unwrap_or (position (λ b. b == mark) bytes) (length bytes) ≡ position_or_len (λ b. b == mark) bytes
  length_to = let within = prefix_len-le-length (λ b. not (b == mark)) bytes in grind (arith, nat_tests)

  pub length_to_within : unwrap_or (position (λ b. b == mark) bytes) (length bytes) ≤ length bytes
  length_to_within = let within = prefix_len-le-length (λ b. not (b == mark)) bytes in rw length_to within

  pub one_part : (n : ℕ) → n ≡ position_or_len (λ b. b == mark) bytes → length bytes ≤ n → parts mark bytes ≡ bytes ∷ []
  one_part n e all = slice_split_none (λ b. b == mark) bytes (λ k d h. fails_before_first (λ b. b == mark) bytes k d (omega (arith, e)))

  pub first_part : (n : ℕ) → n ≡ position_or_len (λ b. b == mark) bytes → n < length bytes → parts mark bytes ≡ take n bytes ∷ parts mark (drop (n + 1) bytes)
  first_part n e some = rw e (slice_split_first (λ b. b == mark) bytes 0 (omega (arith, e)))

-- the first word from a place on
pub next_word : (line : List ℕ) (at n : ℕ) → at ≤ length line → n ≡ position_or_len (λ b. b == 32) (drop at line) → words_from line at ≡ record { column = at + 1; bytes = take n (drop at line) } ∷ words_from line (at + (n + 1))
next_word line at n inside e =
    let long : length (drop at line) ≡ length line - at = length-drop at line in
    let here : nat_le at (length line) ≡ true = grind (arith, nat_tests) in
    rw here (by_case (cases_lt n (length (drop at line))))
  where
    by_case : (n < length (drop at line)) ⊎ (length (drop at line) ≤ n) → placed (at + 1) (parts 32 (drop at line)) ≡ record { column = at + 1; bytes = take n (drop at line) } ∷ words_from line (at + (n + 1))
    by_case (inl some) =
        let long : length (drop at line) ≡ length line - at = length-drop at line in
        let behind : nat_le (at + (n + 1)) (length line) ≡ true = grind (arith, nat_tests) in
        let column : at + 1 + n + 1 ≡ at + (n + 1) + 1 = omega arith in
        let short : length (take n (drop at line)) ≡ n = length-take-le n (drop at line) (omega arith) in
        rw (first_part 32 (drop at line) n e some, behind, drop-drop (n + 1) at line) (ap (λ k. record { column = at + 1; bytes = take n (drop at line) } ∷ placed k (parts 32 (drop (at + (n + 1)) line))) (ap (λ k. at + 1 + k + 1) short ∙ column))
    by_case (inr all) =
        let long : length (drop at line) ≡ length line - at = length-drop at line in
        let behind : nat_le (at + (n + 1)) (length line) ≡ false = grind (arith, nat_tests) in
        rw (one_part 32 (drop at line) n e all, behind, take_all n (drop at line) all) refl

pub next_shorter : (line : List ℕ) (at n : ℕ) → at ≤ length line → n ≡ position_or_len (λ b. b == 32) (drop at line) → length (words_from line (at + (n + 1))) < length (words_from line at)
next_shorter line at n inside e = let longer = ap length (next_word line at n inside e) in omega (arith, longer)
