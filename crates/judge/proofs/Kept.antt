-- What is kept for contexts.
use Rattle.std.proofs.Common.{◌≡◌, ℕ, zero, suc, get_or, replicate, refl}

-- at the start a blank value is read everywhere
pub blank_at : {A : Type 0} (n i : ℕ) (a : A) → get_or (replicate n a) i a ≡ a
blank_at zero i a = refl
blank_at (suc n) zero a = refl
blank_at (suc n) (suc i) a = blank_at n i a
