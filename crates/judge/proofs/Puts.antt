-- What a list holds after an item of it was written over.
use Rattle.std.proofs.Common.{◌≡◌, ℕ, ◌<◌, ◌≤◌, List, set, Ok, Err, Result, arith}

pub put-wrote : {X : Type 0} (r : Result (Unit {0}) X) (i len : ℕ) (xs ys : List X) (x : X)
    → elim r as (λ (_ : Result (Unit {0}) X). Type 0) [ Ok _ ↦ (i < len) × (ys ≡ set xs i x) | Err e ↦ (len ≤ i) × (ys ≡ xs) × (e ≡ x) ] → i < len → ys ≡ set xs i x
put-wrote (Ok u) i len xs ys x h b = h.1
put-wrote (Err e) i len xs ys x h b = absurd (omega (arith, h.0))
