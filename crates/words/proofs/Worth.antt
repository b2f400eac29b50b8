-- What digits are worth.
use Rattle.std.proofs.Common.{◌≡◌, ℕ, suc, ◌+◌, ◌-◌, ◌*◌, ◌<◌, ◌≤◌, Bool, true, false, cond, ◌&&◌, List, [], ◌∷◌, get_or, drop, length, nat_le, Some, None, arith, refl, drop-cons}
use Rattle.std.specs.List.{list_all}
use Rattle.std.proofs.lemmas.Bool.Decides.{nat_tests}
use Rattle.words.specs.Shape.{digit}
use Rattle.words.specs.Numbers.{unpadded, worth, number_of}

-- more digits are worth no less
worth_grows : (value : ℕ) (bs : List ℕ) → value ≤ worth value bs
worth_grows value [] = omega arith
worth_grows value (b ∷ bs) = let more = worth_grows (10 * value + (b - 48)) bs in omega (arith, more)

-- digits up to a place are worth too much already
pub worth_too_much : (w : List ℕ) (value i : ℕ) → i < length w → worth value (drop i w) ≡ worth 0 w → 999 < 10 * value + (get_or w i 0 - 48) → number_of w ≡ None
worth_too_much w value i inside e large =
    let more = worth_grows (10 * value + (get_or w i 0 - 48)) (drop (suc i) w) in
    let here : worth value (drop i w) ≡ worth (10 * value + (get_or w i 0 - 48)) (drop (suc i) w) = rw (drop-cons w i 0) in
    let most : nat_le (worth 0 w) 999 ≡ false = grind (arith, nat_tests) in
    rw most (by_digits (unpadded w) (list_all digit w))
  where
    by_digits : (a b : Bool) → cond (a && (b && false)) (Some (worth 0 w)) None ≡ None
    by_digits true true = refl
    by_digits true false = refl
    by_digits false b = refl
