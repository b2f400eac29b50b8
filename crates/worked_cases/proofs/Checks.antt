-- Tests of every number below a bound and of every member of a list, for cases that are settled by computing.
use Rattle.std.proofs.Common.{ℕ, zero, suc, ◌<◌, Bool, true, false, ◌&&◌, T, eqb, List, [], ◌∷◌, sym, subst, ⊎_elim, arith, eqb→eq}
use Rattle.std.proofs.lemmas.Bool.{cases_eq}
use Rattle.access.proofs.Tests.{both_parts, either_part}
use Rattle.worked_cases.specs.Vectors.{one_of}

abbrev pub all_below : (ℕ → Bool) → ℕ → Bool
all_below test zero = true
all_below test (suc k) = test k && all_below test k

pub all_at : (test : ℕ → Bool) (k o : ℕ) → T (all_below test k) → o < k → T (test o)
all_at test zero o h b = absurd (omega arith)
all_at test (suc k) o h b = let r = both_parts (test k) (all_below test k) h in ⊎_elim (λ e. subst (λ x. T (test x)) (sym e) r.0) (λ n. all_at test k o r.1 (omega arith)) (cases_eq o k)

abbrev pub all_in : (ℕ → Bool) → List ℕ → Bool
all_in test [] = true
all_in test (x ∷ xs) = test x && all_in test xs

pub all_member : (test : ℕ → Bool) (xs : List ℕ) (c : ℕ) → T (all_in test xs) → T (one_of xs c) → T (test c)
all_member test [] c h m = elim m [ ]
all_member test (x ∷ xs) c h m =
    let r = both_parts (test x) (all_in test xs) h in
    ⊎_elim (λ e. subst (λ y. T (test y)) (sym (eqb→eq c x e)) r.0) (λ n. all_member test xs c r.1 n) (either_part (eqb c x) (one_of xs c) m)

abbrev pub implies : Bool → Bool → Bool
implies true b = b
implies false b = true

pub implied : (a b : Bool) → T (implies a b) → T a → T b
implied true b h p = h
implied false b h p = elim p [ ]
