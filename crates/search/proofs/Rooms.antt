-- Where a place is left, a push is not refused.
use Rattle.std.proofs.Common.{ℕ, ◌<◌, List, length, Ok, Err, Result, arith}
use Rattle.search.specs.Changes.{Added, Pushed}

pub added : {T : Type 0} (xs : List T) (len : ℕ) (x : T) (ys : List T) (more : ℕ) (r : Result (Unit {0}) T) → len < length xs →
    Pushed xs len x ys more r → Added xs len x ys more
added xs len x ys more (Ok _) l p = p
added xs len x ys more (Err e) l p = absurd (omega (arith, p.full))
