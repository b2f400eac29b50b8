-- A list of entries, one of them replaced.
use Rattle.std.proofs.Common.{◌≡◌, ℕ, suc, ◌+◌, ◌-◌, ◌<◌, ◌≤◌, Bool, true, false, cond, ◌⊎◌, List, [], ◌∷◌, length, get_or, set, Some, None, Option, sym, refl, ap, ◌∙◌, subst, ap₂, inl, inr, arith, get_or-set_other, get_or-set_same}
use mathlib.Core.Path.{fun_ext}
use Rattle.std.proofs.lemmas.Bool.{cases_Bool, cases_eq, eq-eqb, ne_eqb}
use Rattle.access.specs.Contexts.{inside, index_of}
use Rattle.access.proofs.ContextLaws.{inside_parts, inside_from}
use Rattle.sheet.specs.Entries.{Entries, put, put_within, listed, in_order}

-- the index of a number is the one below it, and the number is in range
index_parts : (b : Bool) (i j : ℕ) → Some i ≡ cond b (Some j) None → (b ≡ true) × (i ≡ j)
index_parts true i j e = (refl, cc)
index_parts false i j e = absurd (grind arith)

-- the place of a number replaced is its entry replaced
pub listed_put : {E : Type 0} (most : ℕ) (es : List (Option E)) (k i : ℕ) (e : Option E) → Some i ≡ index_of most k → length es ≡ most → listed most (set es i e) ≡ put_within most (listed most es) k e
listed_put {E} most es k i e is long =
    let parts = index_parts (inside most k) i (k - 1) is in
    rw (parts.1, parts.0) (fun_ext (λ j. at (inside_parts most k parts.0) j (cases_eq j k) (cases_Bool (inside most j))))
  where
    at : (1 ≤ k) × (k ≤ most) → (j : ℕ) → (j ≡ k) ⊎ (j ≡ k → ⊥) → (inside most j ≡ true) ⊎ (inside most j ≡ false) → listed most (set es (k - 1) e) j ≡ put (listed most es) k e j
    at r j (inl p) q = rw (p, inside_from most k r.0 r.1, eq-eqb k k refl) (get_or-set_same es (k - 1) e None (omega (arith, r.0, r.1)))
    at r j (inr p) (inl q) =
        let s = inside_parts most j q in
        rw (q, ne_eqb j k p) (get_or-set_other es (k - 1) (j - 1) e None (omega (arith, r.0, s.0)))
    at r j (inr p) (inr q) = rw (q, ne_eqb j k p) refl

-- entries that are those of a list, in order, are the list
ordered : {E : Type 0} (f : Entries E) (k : ℕ) (es : List (Option E)) → ((j : ℕ) → j < length es → f (suc k + j) ≡ get_or es j None) → in_order f k (length es) ≡ es
ordered f k [] h = refl
ordered f k (e ∷ es) h = ap₂ (λ a b. a ∷ b) (subst (λ (x : ℕ). f x ≡ e) (omega arith) (h 0 (omega arith))) (ordered f (suc k) es (λ j l. subst (λ (x : ℕ). f x ≡ get_or es j None) (omega arith) (h (suc j) (omega arith))))

pub listed_order : {E : Type 0} (most : ℕ) (es : List (Option E)) → length es ≡ most → es ≡ in_order (listed most es) 0 most
listed_order most es long = sym (ap (in_order (listed most es) 0) (sym long) ∙ ordered (listed most es) 0 es (λ j l. at j l))
  where
    at : (j : ℕ) → j < length es → listed most es (suc 0 + j) ≡ get_or es j None
    at j l = let e : suc 0 + j - 1 ≡ j = omega arith in rw (inside_from most (suc 0 + j) (omega arith) (omega (arith, long)), e) refl
