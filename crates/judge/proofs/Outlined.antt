-- What bounds the operations that grants give, entry by entry.
use Rattle.std.proofs.Common.{◌≡◌, ℕ, suc, Bool, true, false, not, ◌&&◌, ◌||◌, cond, T, List, [], ◌∷◌, ◌++◌, Some, None, Option, sym, refl, ap, ◌∙◌, subst, ⊎_elim}
use lib.Bits.{bit_and, bit_or, or_zero_r, and_zero_l, and_zero_r}
use Rattle.access.specs.Operations.{has, without}
use Rattle.access.proofs.Bits.{has_none, has_and, has_or, has_without, or_assoc, same_bits}
use Rattle.access.proofs.Tests.{left, right, both_parts, T_false}
use Rattle.verdicts.specs.Runs.{Grant as Granting, Grants}
use Rattle.verdicts.specs.Possible.{grant_set, granted}
use Rattle.verdicts.proofs.Reduction.{or_has, has_both}
use Rattle.judge.specs.declared.grant.Grant.{Grant}
use Rattle.judge.specs.Grants.{meant, standing}
use Rattle.judge.specs.Outlines.{operations_if, offered, offered_by, Holds}

-- an entry more offers what it offers beside the others
pub offered_push : (test : Granting → Bool) (os : List (Option Grant)) (o : Option Grant) (k : ℕ) → offered test (standing (os ++ (o ∷ [])) k) ≡ bit_or (offered test (standing os k)) (offered_by test o)
offered_push test [] None k = refl
offered_push test [] (Some g) k = or_zero_r (operations_if test (meant g))
offered_push test (None ∷ os) o k = offered_push test os o (suc k)
offered_push test (Some g ∷ os) o k =
    ap (bit_or (operations_if test (meant g))) (offered_push test os o (suc k)) ∙ sym (or_assoc (operations_if test (meant g)) (offered test (standing os (suc k))) (offered_by test o))

-- what a grant gives on a pair, it offers by its subjects and by its targets
module _ (test : Granting → Bool) (s t : ℕ) where
  in_part : (g : Granting) → (T (g.subjects s && g.targets t) → T (test g)) → Holds (operations_if test g) (grant_set g s t)
  in_part g f o h = go (g.subjects s && g.targets t) (test g) f h
    where
      go : (a b : Bool) → (T a → T b) → T (has (cond a g.operations 0) o) → T (has (cond b g.operations 0) o)
      go true true f h = h
      go true false f h = absurd (f tt)
      go false b f h = absurd (subst T (has_none o) h)

  pub offered_holds : ((g : Granting) → T (g.subjects s && g.targets t) → T (test g)) → (gs : Grants) → Holds (offered test gs) (granted gs s t)
  offered_holds f [] o h = h
  offered_holds f (j ∷ gs) o h =
      subst T (sym (has_or (operations_if test j.1) (offered test gs) o))
      (⊎_elim (λ q. left (has (operations_if test j.1) o) _ (in_part j.1 (f j.1) o q)) (λ q. right (has (operations_if test j.1) o) _ (offered_holds f gs o q)) (or_has (grant_set j.1 s t) (granted gs s t) o h))

-- what is kept for a subject and for a target holds together what the grants give on the pair
module _ (gs : Grants) where
  pub both_hold : (s t : ℕ) → Holds (bit_and (offered (λ g. g.subjects s) gs) (offered (λ g. g.targets t) gs)) (granted gs s t)
  both_hold s t o h =
      has_both (offered (λ g. g.subjects s) gs) (offered (λ g. g.targets t) gs) o
      (offered_holds (λ g. g.subjects s) s t (λ g b. (both_parts (g.subjects s) (g.targets t) b).0) gs o h)
      (offered_holds (λ g. g.targets t) s t (λ g b. (both_parts (g.subjects s) (g.targets t) b).1) gs o h)

-- where nothing that is permitted and not written is among the most that grants give, what they give adds nothing
module _ (p w most given : ℕ) (h : Holds most given) where
  pub nothing_added : bit_and (without p w) most ≡ 0 → bit_and w p ≡ bit_and p (bit_or w given)
  nothing_added e = same_bits _ _ (λ o.
      has_and w p o ∙ bits (has p o) (has w o) (has given o) (open_not o) ∙ sym (has_and p (bit_or w given) o ∙ ap (λ b. has p o && b) (has_or w given o)))
    where
      open_not : (o : ℕ) → T (has given o) → (has p o && not (has w o)) ≡ false
      open_not o g =
          T_false _ (λ t. subst T (has_none o) (subst (λ x. T (has x o)) e (has_both (without p w) most o (subst T (sym (has_without p w o)) t) (h o g))))

      bits : (p w g : Bool) → (T g → (p && not w) ≡ false) → (w && p) ≡ (p && (w || g))
      bits false true g f = refl
      bits false false g f = refl
      bits true true g f = refl
      bits true false false f = refl
      bits true false true f = sym (f tt)

-- nor where nothing is permitted
pub none_permitted : (p w given : ℕ) → p ≡ 0 → bit_and w p ≡ bit_and p (bit_or w given)
none_permitted p w given e = ap (bit_and w) e ∙ and_zero_r w ∙ sym (ap (λ x. bit_and x (bit_or w given)) e ∙ and_zero_l (bit_or w given))
