-- How far an activity has to go at least, by a test that computes: a case hands over a label for each context, which says
-- how many moves away it is at least.
use Rattle.std.proofs.Common.{ℕ, zero, suc, ◌+◌, ◌*◌, ◌<◌, ◌≤◌, Bool, false, ◌&&◌, ◌||◌, T, eqb, leb, List, length, get_or, ⊎_elim, arith, eqb→eq, leb→le}
use Rattle.access.specs.Policy.{Meaning}
use Rattle.verdicts.specs.Runs.{Grants}
use Rattle.verdicts.specs.Activities.{Move, Property, integrity, confidentiality, consistency, Forbids}
use Rattle.verdicts.specs.Possible.{makeable}
use Rattle.verdicts.specs.Searches.{Search, pushing, pulling, flowing}
use Rattle.verdicts.specs.Verdicts.{Realises}
use Rattle.access.proofs.Tests.{both_parts, either_part}
use Rattle.verdicts.proofs.Inside.{Inside}
use Rattle.verdicts.proofs.Searching.{kind_of, Sought, Searched, search_reach, move_inside}
use Rattle.verdicts.proofs.Decided.{direct, direct_found}
use Rattle.worked_cases.specs.Vectors.{one_of}
use Rattle.worked_cases.proofs.Checks.{all_below, all_at, all_in, all_member, implies, implied}

-- labels by phase and context; the contexts of a list count from 0, and one behind it is far away
abbrev pub labels : List ℕ → List ℕ → ℕ → ℕ → ℕ
labels S R zero c = get_or S c 9
labels S R (suc q) c = get_or R c 9

-- along a makeable move of a search a label rises by at most `rise`
abbrev climbs : Meaning → Grants → Search → ℕ → (ℕ → ℕ → ℕ) → Bool
climbs m gs kind rise h =
    all_below (λ c. all_below (λ d. all_below (λ q. implies (makeable m gs (kind.move q c d)) (all_below (λ p. leb (h q d) (h p c + rise)) (suc q))) kind.phases) (suc m.contexts)) (suc m.contexts)

-- the labels start at 0, climb, and are at least `far` at each end that counts
abbrev pub search_test : Meaning → Grants → Search → (ℕ → ℕ → Bool) → List ℕ → List ℕ → ℕ → ℕ → (ℕ → ℕ → ℕ → ℕ) → Bool
search_test m gs kind skip xs ys rise far h =
    all_in (λ a. eqb (h a 0 a) 0 && (climbs m gs kind rise (h a) && all_in (λ b. skip a b || all_below (λ q. leb far (h a q b)) kind.phases) ys)) xs

module _ (m : Meaning) (gs : Grants) (stays : Inside m) where
  climb : (p : Property) → Searched p → (rise : ℕ) (h : ℕ → ℕ → ℕ) → T (climbs m gs (kind_of p) rise h) → (x c q d : ℕ) → x ≤ q → q < (kind_of p).phases → T (makeable m gs ((kind_of p).move q c d)) → h q d ≤ h x c + rise
  climb p s rise h t x c q d l f v =
      let kind = kind_of p in
      let e = move_inside m gs stays p s q c d v in
      let a = all_at (λ c. all_below (λ d. all_below (λ q. implies (makeable m gs (kind.move q c d)) (all_below (λ p. leb (h q d) (h p c + rise)) (suc q))) kind.phases) (suc m.contexts)) (suc m.contexts) c t (omega arith) in
      let b = all_at (λ d. all_below (λ q. implies (makeable m gs (kind.move q c d)) (all_below (λ p. leb (h q d) (h p c + rise)) (suc q))) kind.phases) (suc m.contexts) d a (omega arith) in
      let g = all_at (λ q. implies (makeable m gs (kind.move q c d)) (all_below (λ p. leb (h q d) (h p c + rise)) (suc q))) kind.phases q b f in
      leb→le (h q d) (h x c + rise) (all_at (λ p. leb (h q d) (h p c + rise)) (suc q) x (implied (makeable m gs (kind.move q c d)) _ g v) (omega arith))

  module _ (p : Property) (s : Searched p) (some_phase : 0 < (kind_of p).phases) (skip : ℕ → ℕ → Bool) (xs ys : List ℕ) (told : (a b : ℕ) → Sought m p a b → T (one_of xs a) × T (one_of ys b) × (T (skip a b) → ⊥)) (rise far : ℕ) (h : ℕ → ℕ → ℕ → ℕ) (t : T (search_test m gs (kind_of p) skip xs ys rise far h)) where
    parts : (a : ℕ) → T (one_of xs a) → T (eqb (h a 0 a) 0) × T (climbs m gs (kind_of p) rise (h a)) × T (all_in (λ b. skip a b || all_below (λ q. leb far (h a q b)) (kind_of p).phases) ys)
    parts a o =
        let x = both_parts (eqb (h a 0 a) 0) _ (all_member (λ a. eqb (h a 0 a) 0 && (climbs m gs (kind_of p) rise (h a) && all_in (λ b. skip a b || all_below (λ q. leb far (h a q b)) (kind_of p).phases) ys)) xs a t o) in
        let y = both_parts (climbs m gs (kind_of p) rise (h a)) _ x.1 in
        (x.0, y.0, y.1)

    abbrev Near : ℕ → ℕ → ℕ → ℕ → Type 0
    Near a k q c = (q < (kind_of p).phases) × (T (one_of xs a) → h a q c ≤ rise * k)

    pub search_bound : (ms : List Move) → Forbids m p ms → Realises m gs ms → far ≤ rise * length ms
    search_bound ms f r =
        let x = search_reach m gs p s Near
        (λ a b o. (some_phase, λ i. (let e = eqb→eq (h a 0 a) 0 (parts a i).0 in omega arith)))
        (λ a k x c q d n l f v. (f, λ i. (let e = climb p s rise (h a) (parts a i).1 x c q d l f v in let g = n.1 i in omega arith)))
        ms f r in
        let a = x.0 in
        let b = x.1 in
        let w = told a b x.2 in
        let q = x.3.0 in
        ⊎_elim
        (λ z. absurd (w.2 z))
        (λ z. let e = leb→le far (h a q b) (all_at (λ q. leb far (h a q b)) (kind_of p).phases q z x.3.1.0) in let g = x.3.1.1 w.0 in omega arith)
        (either_part (skip a b) _ (all_member (λ b. skip a b || all_below (λ q. leb far (h a q b)) (kind_of p).phases) ys b (parts a w.0).2 w.1))

  abbrev never : ℕ → ℕ → Bool
  never a b = false

  module _ (xs ys : List ℕ) (rise far : ℕ) (h : ℕ → ℕ → ℕ → ℕ) where
    pub integrity_bound : T (search_test m gs pushing never xs ys rise far h) → (ms : List Move) → Forbids m (integrity (one_of xs) (one_of ys)) ms → Realises m gs ms → far ≤ rise * length ms
    integrity_bound = search_bound (integrity (one_of xs) (one_of ys)) tt (omega arith) never xs ys (λ a b s. (s.0, s.1, λ e. e)) rise far h

    pub confidentiality_bound : T (search_test m gs pulling never xs ys rise far h) → (ms : List Move) → Forbids m (confidentiality (one_of xs) (one_of ys)) ms → Realises m gs ms → far ≤ rise * length ms
    confidentiality_bound = search_bound (confidentiality (one_of xs) (one_of ys)) tt (omega arith) never xs ys (λ a b s. (s.0, s.1, λ e. e)) rise far h

    pub consistency_bound : T (search_test m gs flowing (direct m) xs ys rise far h) → (ms : List Move) → Forbids m (consistency (one_of xs) (one_of ys)) ms → Realises m gs ms → far ≤ rise * length ms
    consistency_bound = search_bound (consistency (one_of xs) (one_of ys)) tt (omega arith) (direct m) xs ys (λ a b s. (s.0, s.1, λ e. s.2 (direct_found m a b e))) rise far h
