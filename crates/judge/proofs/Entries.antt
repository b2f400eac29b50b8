-- The standing grants, entry by entry.
use Rattle.std.proofs.Common.{rules, IsSome, ◌≡◌, ℕ, zero, suc, ◌+◌, ◌<◌, true, false, T, List, [], ◌∷◌, length, get_or, ◌++◌, Some, None, Option, sym, refl, ap, ◌∙◌, subst, inl, inr, ⊎_elim, arith}
use lib.Bits.{bit_and, bit_or, or_zero_r}
use Rattle.std.proofs.lemmas.Bool.{cases_lt}
use Rattle.access.specs.Operations.{has}
use Rattle.access.specs.Policy.{Meaning, Allows}
use Rattle.access.proofs.Bits.{has_none, or_assoc}
use Rattle.verdicts.specs.Runs.{Grant as Granting, Grants, Standing, here, there}
use Rattle.verdicts.specs.Possible.{grant_set, granted, possible}
use Rattle.verdicts.specs.Verdicts.{Given, Origin}
use Rattle.verdicts.proofs.Reduction.{or_has, and_has, has_both, granting, grant_set_at, grant_set_parts}
use Rattle.judge.specs.declared.grant.Grant.{Grant}
use Rattle.judge.specs.Grants.{meant, standing, given_by, doing, NoneGives, LowestGiver, Giver}

-- an entry more gives what it gives beside the others
pub granted_push : (os : List (Option Grant)) (o : Option Grant) (k s t : ℕ) → granted (standing (os ++ (o ∷ [])) k) s t ≡ bit_or (granted (standing os k) s t) (given_by o s t)
granted_push [] None k s t = refl
granted_push [] (Some g) k s t = or_zero_r (grant_set (meant g) s t)
granted_push (None ∷ os) o k s t = granted_push os o (suc k) s t
granted_push (Some g ∷ os) o k s t = ap (bit_or (grant_set (meant g) s t)) (granted_push os o (suc k) s t) ∙ sym (or_assoc (grant_set (meant g) s t) (granted (standing os (suc k)) s t) (given_by o s t))

-- entry i is the grant under number i + 1
entry_stands : (os : List (Option Grant)) (k i : ℕ) (g : Grant) → get_or os i None ≡ Some g → Standing (suc (k + i)) (meant g) (standing os k)
entry_stands [] k i g e = let z : ◌≡◌ {A = ℕ} 0 1 = cc in absurd (omega arith)
entry_stands (None ∷ os) k zero g e = let z : ◌≡◌ {A = ℕ} 0 1 = cc in absurd (omega arith)
entry_stands (None ∷ os) k (suc i) g e =
    let n : suc (suc k + i) ≡ suc (k + suc i) = omega arith in
    subst (λ x. Standing x (meant g) (standing os (suc k))) n (entry_stands os (suc k) i g e)
entry_stands (Some h ∷ os) k zero g e =
    let n : suc k ≡ suc (k + 0) = omega arith in
    let s : h ≡ g = cc in
    subst (λ x. Standing x (meant g) (standing (Some h ∷ os) k)) n (subst (λ x. Standing (suc k) (meant x) (standing (Some h ∷ os) k)) s here)
entry_stands (Some h ∷ os) k (suc i) g e =
    let n : suc (suc k + i) ≡ suc (k + suc i) = omega arith in
    subst (λ x. Standing x (meant g) (standing (Some h ∷ os) k)) n (there (entry_stands os (suc k) i g e))

record Entered (os : List (Option Grant)) (k j : ℕ) (m : Granting) : Type 0 where
  pub place : ℕ
  pub grant : Grant
  pub entry : get_or os place None ≡ Some grant
  pub below : place < length os
  pub number : suc (k + place) ≡ j
  pub meaning : meant grant ≡ m

entered_later : {os : List (Option Grant)} {k j : ℕ} {m : Granting} (o : Option Grant) → Entered os (suc k) j m → Entered (o ∷ os) k j m
entered_later o r = record { place = suc r.place; grant = r.grant; entry = r.entry; below = omega (arith, r.below); number = omega (arith, r.number); meaning = r.meaning }

stands_entered : (os : List (Option Grant)) (k j : ℕ) (m : Granting) → Standing j m (standing os k) → Entered os k j m
stands_entered [] k j m h = elim h [ ]
stands_entered (None ∷ os) k j m h = entered_later None (stands_entered os (suc k) j m h)
stands_entered (Some g ∷ os) k j m here = record { place = 0; grant = g; entry = refl; below = omega arith; number = omega arith; meaning = refl }
stands_entered (Some g ∷ os) k j m (there r) = entered_later (Some g) (stands_entered os (suc k) j m r)

-- an entry that gives an operation, and where a grant that gives one is entered
module _ (os : List (Option Grant)) (s t o : ℕ) where
  entry_gives : (i : ℕ) → T (has (given_by (get_or os i None) s t) o) → Given (standing os 0) (i + 1) (doing s t o)
  entry_gives i h = go (get_or os i None) refl h
    where
      go : (e : Option Grant) → get_or os i None ≡ e → T (has (given_by e s t) o) → Given (standing os 0) (i + 1) (doing s t o)
      go None e h = absurd (subst T (has_none o) h)
      go (Some g) e h =
          let p = grant_set_parts (meant g) s t o h in
          let n : suc (0 + i) ≡ i + 1 = omega arith in
          record { over = record { grant = meant g; stands = subst (λ x. Standing x (meant g) (standing os 0)) n (entry_stands os 0 i g e); subject = p.0; target = p.1 }; gives = p.2 }

  giver_entry : (j : ℕ) → Given (standing os 0) j (doing s t o) → (i : ℕ) × (i + 1 ≡ j) × (i < length os) × T (has (given_by (get_or os i None) s t) o)
  giver_entry j w =
      let r = stands_entered os 0 j w.over.grant w.over.stands in
      let h = subst (λ x. T (has x o)) (sym (grant_set_at w.over.grant s t w.over.subject w.over.target)) w.gives in
      (r.place, omega (arith, r.number), r.below, subst (λ e. T (has (given_by e s t) o)) (sym r.entry) (subst (λ m. T (has (grant_set m s t) o)) (sym r.meaning) h))

  -- the first entry that gives is the lowest giver, and where no entry gives there is none
  pub first_giver : (i : ℕ) → has (given_by (get_or os i None) s t) o ≡ true → ((k : ℕ) → k < i → has (given_by (get_or os k None) s t) o ≡ false) → LowestGiver (standing os 0) s t o (i + 1)
  first_giver i h none = (
    entry_gives i (subst T (sym h) tt),
    λ j w. let r = giver_entry j w in ⊎_elim (λ l. absurd (subst T (none r.0 l) r.3)) (λ g. omega (arith, r.1)) (cases_lt r.0 i),
  )

  pub no_giver : ((k : ℕ) → k < length os → has (given_by (get_or os k None) s t) o ≡ false) → NoneGives (standing os 0) s t o
  no_giver none j w = let r = giver_entry j w in subst T (none r.0 r.2) r.3

-- where a possible interaction comes from
module _ (m : Meaning) (gs : Grants) (s t o : ℕ) where
  abbrev own : ℕ
  own = bit_and (m.written s t) (m.permitted s t)

  pub from_policy : true ≡ has own o → Origin m gs (doing s t o) 0
  from_policy h = let c = and_has (m.written s t) (m.permitted s t) o (subst T h tt) in inl (record { is_written = c.0; is_permitted = c.1 }, refl)

  module _ (not_own : false ≡ has own o) where
    not_allowed : Allows m (doing s t o) → ⊥
    not_allowed a = subst T (sym not_own) (has_both (m.written s t) (m.permitted s t) o a.is_written a.is_permitted)

    -- what is possible and not the policy's own is granted
    some_gives : T (has (possible m gs s t) o) → NoneGives gs s t o → ⊥
    some_gives h n =
        let c = and_has (m.permitted s t) (bit_or (m.written s t) (granted gs s t)) o h in
        ⊎_elim
        (λ w. not_allowed (record { is_written = w; is_permitted = c.0 }))
        (λ g. let r = granting gs s t o g in n r.number (record { over = r.over; gives = r.gives }))
        (or_has (m.written s t) (granted gs s t) o c.1)

    -- so a grant gives it
    pub some_giver : T (has (possible m gs s t) o) → (giver : Option ℕ) → Giver gs s t o giver → IsSome giver
    some_giver h None n = absurd (some_gives h n)
    some_giver h (Some j) l = search rules

    -- and it comes from the lowest one that does
    pub from_giver : (giver : Option ℕ) (k : ℕ) → giver ≡ Some k → Giver gs s t o giver → Origin m gs (doing s t o) k
    from_giver giver k e l = let g = subst (Giver gs s t o) e l in inr (not_allowed, g.0, g.1)
