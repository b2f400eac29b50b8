-- A pile is sound where its vectors are of its contexts and few.
use Rattle.std.proofs.Common.{◌≡◌, ℕ, ◌^◌, ◌<◌, ◌≤◌, Bool, true, false, cond, ◌&&◌, T, eqb, ltb, leb, List, [], ◌∷◌, sym, refl, ap, subst, subst₂, arith, eqb→eq, ltb→lt, leb→le}
use lib.Bits.{bit_or, or_lt}
use Rattle.std.proofs.lemmas.Nat.{pow_below}
use Rattle.access.specs.Operations.{number_of, one}
use Rattle.access.specs.Contexts.{both_inside}
use Rattle.access.specs.Sound.{Sound, filled}
use Rattle.layers.specs.Layers.{level_rule, owner_rule}
use Rattle.access.proofs.Tests.{both_parts}
use Rattle.worked_cases.specs.Vectors.{Vector, vectors, flat, piled}

module _ (n : ℕ) where
  -- each vector is of two contexts and one of the twelve operations
  abbrev fits_test : List Vector → Bool
  fits_test [] = true
  fits_test (v ∷ vs) = both_inside n v.0 v.1 && (ltb (number_of v.2) 12 && fits_test vs)

  abbrev at : Vector → ℕ → ℕ → Bool
  at v s t = eqb s v.0 && eqb t v.1

  vectors_inside : (vs : List Vector) → T (fits_test vs) → (s t : ℕ) → both_inside n s t ≡ false → vectors vs s t ≡ 0
  vectors_inside [] h s t e = refl
  vectors_inside (v ∷ vs) h s t e =
      let p = both_parts (both_inside n v.0 v.1) _ h in
      let q = both_parts (ltb (number_of v.2) 12) _ p.1 in
      go (at v s t) (both_parts (eqb s v.0) (eqb t v.1)) p.0 (vectors_inside vs q.1 s t e)
    where
      go : (b : Bool) → (T b → T (eqb s v.0) × T (eqb t v.1)) → T (both_inside n v.0 v.1) → vectors vs s t ≡ 0 → bit_or (cond b (one (number_of v.2)) 0) (vectors vs s t) ≡ 0
      go true f w z = absurd (subst T e (subst₂ (λ x y. T (both_inside n x y)) (sym (eqb→eq s v.0 (f tt).0)) (sym (eqb→eq t v.1 (f tt).1)) w))
      go false f w z = z

  vectors_known : (vs : List Vector) → T (fits_test vs) → (s t : ℕ) → vectors vs s t < 2 ^ 12
  vectors_known [] h s t = omega arith
  vectors_known (v ∷ vs) h s t =
      let p = both_parts (both_inside n v.0 v.1) _ h in
      let q = both_parts (ltb (number_of v.2) 12) _ p.1 in
      or_lt 12 _ (vectors vs s t) (go (at v s t) (pow_below (number_of v.2) 12 (ltb→lt (number_of v.2) 12 q.0))) (vectors_known vs q.1 s t)
    where
      go : (b : Bool) → one (number_of v.2) < 2 ^ 12 → cond b (one (number_of v.2)) 0 < 2 ^ 12
      go true l = l
      go false l = omega arith

  -- what the layers leave of a pair of contexts, and of another pair
  piled_set : (level : ℕ → ℕ) (b : Bool) (s t : ℕ) → ℕ
  piled_set level b s t = level_rule level s t (owner_rule flat 0 s t (cond b 4095 0))

  pub piled_sound : (level : ℕ → ℕ) (vs : List Vector) → T (leb 1 n && (leb n 256 && fits_test vs)) → filled (piled n level vs) ≤ 1024 → Sound (piled n level vs)
  unfolding piled_set
  piled_sound level vs h few =
      let a = both_parts (leb 1 n) _ h in
      let b = both_parts (leb n 256) _ a.1 in
      record {
        a_context = leb→le 1 n a.0;
        few_contexts = leb→le n 256 b.0;
        written_inside = vectors_inside vs b.1;
        permitted_inside = λ s t e. ap (λ x. piled_set level x s t) e;
        written_known = vectors_known vs b.1;
        permitted_known = λ s t. known s t (both_inside n s t);
        room = few;
      }
    where
      known : (s t : ℕ) (b : Bool) → piled_set level b s t < 4096
      known s t true = omega arith
      known s t false = omega arith
