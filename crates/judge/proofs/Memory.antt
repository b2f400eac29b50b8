-- When lent memory is too short.
use Rattle.std.proofs.Common.{◌≡◌, ℕ, ◌*◌, ◌≤◌, true, false, List, length, arith}
use Rattle.std.proofs.lemmas.Bool.{true_from_ne_false}
use Rattle.std.proofs.lemmas.Bool.Decides.{nat_tests}
use Rattle.search.specs.Problem.{Problem}
use Rattle.search.specs.Queue.{Fits}
use Rattle.search.specs.declared.breadth_first.Place.{Place}
use Rattle.judge.specs.Sought.{too_few, short}

pub fitting : (p : Problem) (phases n : ℕ) (ts : List ℕ) (ps : List Place) → p.nodes ≡ phases * n → Fits p ts ps → too_few phases n (length ts) (length ps) ≡ false
fitting p phases n ts ps e f = let a = f.ticks in let b = f.places in grind (arith, nat_tests)

pub unfitting : (p : Problem) (phases n : ℕ) (ts : List ℕ) (ps : List Place) → p.nodes ≡ phases * n → (Fits p ts ps → ⊥) → too_few phases n (length ts) (length ps) ≡ true
unfitting p phases n ts ps e f = true_from_ne_false (too_few phases n (length ts) (length ps)) (λ h. f (record { ticks = grind (arith, nat_tests); places = grind (arith, nat_tests) }))

pub steps_fit : (phases n ticks places steps : ℕ) → short phases n ticks places steps ≡ false → n ≤ steps
steps_fit phases n ticks places steps e = grind (arith, nat_tests)
