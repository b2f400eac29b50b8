-- What legal runs can do: a list of interactions is a legal run's exactly where each is possible.
use Rattle.std.proofs.Common.{◌≡◌, ℕ, ◌^◌, Bool, true, false, cond, not, ◌&&◌, T, eqb, ◌⊎◌, ◌↔◌, List, [], ◌∷◌, sym, refl, ap, ◌∙◌, subst, subst₂, inl, inr, ⊎_elim, arith, eqb→eq, pow_pos}
use lib.Bits.{bit_and, bit_or}
use lib.Dec.{eqb_refl}
use Rattle.std.specs.List.{AllByRecursion}
use Rattle.access.specs.Operations.{has, without}
use Rattle.access.specs.Policy.{Matrix, Meaning, Interaction, with_pair}
use Rattle.verdicts.specs.Runs.{World, added, Grant, Grants, Standing, here, there, Over, Permits, Run, stop, add, remove, act, Legal}
use Rattle.verdicts.specs.Possible.{grant_set, granted, Can}
use Rattle.access.proofs.Bits.{has_or, has_and, has_without, has_power, has_none, same_bits}
use Rattle.access.proofs.Tests.{both, both_parts, left, right, either_part, T_true}

-- what a union and a difference hold, as facts
pub or_has : (a b o : ℕ) → T (has (bit_or a b) o) → T (has a o) ⊎ T (has b o)
or_has a b o h = either_part (has a o) (has b o) (subst T (has_or a b o) h)

pub has_left : (a b o : ℕ) → T (has a o) → T (has (bit_or a b) o)
has_left a b o h = subst T (sym (has_or a b o)) (left (has a o) (has b o) h)

pub has_right : (a b o : ℕ) → T (has b o) → T (has (bit_or a b) o)
has_right a b o h = subst T (sym (has_or a b o)) (right (has a o) (has b o) h)

pub and_has : (a b o : ℕ) → T (has (bit_and a b) o) → T (has a o) × T (has b o)
and_has a b o h = both_parts (has a o) (has b o) (subst T (has_and a b o) h)

pub has_both : (a b o : ℕ) → T (has a o) → T (has b o) → T (has (bit_and a b) o)
has_both a b o p q = subst T (sym (has_and a b o)) (both (has a o) (has b o) p q)

pub without_has : (a b o : ℕ) → T (has (without a b) o) → T (has a o)
without_has a b o h = (both_parts (has a o) (not (has b o)) (subst T (has_without a b o) h)).0

pub power_has : (o : ℕ) → T (has (2 ^ o) o)
power_has o = subst T (sym (has_power o o)) (eqb_refl o)

-- a pair's set after a change is the new one at the pair, and the old one elsewhere
pub with_pair_cases : (P : ℕ → ℕ → ℕ → Type 0) (w : Matrix) (s t set x y : ℕ) → P s t set → P x y (w x y) → P x y (with_pair w s t set x y)
with_pair_cases P w s t set x y p q = go (eqb x s && eqb y t) (both_parts (eqb x s) (eqb y t))
  where
    go : (b : Bool) → (T b → T (eqb x s) × T (eqb y t)) → P x y (cond b set (w x y))
    go true f = subst₂ (λ a b. P a b set) (sym (eqb→eq x s (f tt).0)) (sym (eqb→eq y t (f tt).1)) p
    go false f = q

pub with_pair_there : (w : Matrix) (s t set : ℕ) → with_pair w s t set s t ≡ set
with_pair_there w s t set = go (eqb s s && eqb t t) (both (eqb s s) (eqb t t) (eqb_refl s) (eqb_refl t))
  where
    go : (b : Bool) → T b → cond b set (w s t) ≡ set
    go true h = refl
    go false h = elim h [ ]

-- an operation that a standing grant gives, and one that is granted
pub grant_set_at : (g : Grant) (s t : ℕ) → T (g.subjects s) → T (g.targets t) → grant_set g s t ≡ g.operations
grant_set_at g s t p q = go (g.subjects s && g.targets t) (both (g.subjects s) (g.targets t) p q)
  where
    go : (b : Bool) → T b → cond b g.operations 0 ≡ g.operations
    go true h = refl
    go false h = elim h [ ]

pub over_granted : {k : ℕ} {g : Grant} {gs : Grants} (s t o : ℕ) → Standing k g gs → T (has (grant_set g s t) o) → T (has (granted gs s t) o)
over_granted s t o (here {gs = gs}) h = has_left _ (granted gs s t) o h
over_granted s t o (there {j = j} {gs = gs} r) h = has_right (grant_set j.1 s t) (granted gs s t) o (over_granted s t o r h)

pub record Granting (gs : Grants) (s t o : ℕ) : Type 0 where
  pub number : ℕ
  pub over : Over gs number s t
  pub gives : T (has over.grant.operations o)

pub grant_set_parts : (g : Grant) (s t o : ℕ) → T (has (grant_set g s t) o) → T (g.subjects s) × T (g.targets t) × T (has g.operations o)
grant_set_parts g s t o h = go (g.subjects s) (g.targets t) h
  where
    go : (a b : Bool) → T (has (cond (a && b) g.operations 0) o) → T a × T b × T (has g.operations o)
    go true true h = (tt, tt, h)
    go true false h = absurd (subst T (has_none o) h)
    go false b h = absurd (subst T (has_none o) h)

pub granting : (gs : Grants) (s t o : ℕ) → T (has (granted gs s t) o) → Granting gs s t o
granting [] s t o h = absurd (subst T (has_none o) h)
granting (j ∷ gs) s t o h =
    elim (or_has (grant_set j.1 s t) (granted gs s t) o h) [
      | inl p ↦ (let r = grant_set_parts j.1 s t o p in record { number = j.0; over = record { grant = j.1; stands = here; subject = r.0; target = r.1 }; gives = r.2 })
      | inr q ↦ (let r = granting gs s t o q in record { number = r.number; over = record { grant = r.over.grant; stands = there r.over.stands; subject = r.over.subject; target = r.over.target }; gives = r.gives })
    ]

-- a set that holds a bit has it in common with the bit alone
pub power_and : (o set : ℕ) → T (has set o) → bit_and (2 ^ o) set ≡ 2 ^ o
power_and o set h = same_bits _ _ (λ p. has_and (2 ^ o) set p ∙ ap (λ x. x && has set p) (has_power o p) ∙ go p (eqb o p) (eqb→eq o p) ∙ sym (has_power o p))
  where
    go : (p : ℕ) (b : Bool) → (T b → o ≡ p) → (b && has set p) ≡ b
    go p true f = T_true (has set p) (subst (λ x. T (has set x)) (f tt) h)
    go p false f = refl

module _ (m : Meaning) (gs : Grants) where
  -- no world of a run leaves the written and the granted operations
  abbrev Within : World → Type 0
  Within w = (s t o : ℕ) → T (has (w s t) o) → T (has (bit_or (m.written s t) (granted gs s t)) o)

  permits_granted : {k s t part : ℕ} (o : ℕ) → Permits gs k s t part → T (has part o) → T (has (granted gs s t) o)
  permits_granted {k} {s} {t} {part} o p h =
      let ops = p.over.grant.operations in
      let h' : T (has (bit_and part ops) o) = subst (λ x. T (has x o)) (sym p.within) h in
      over_granted s t o p.over.stands (subst (λ x. T (has x o)) (sym (grant_set_at p.over.grant s t p.over.subject p.over.target)) (and_has part ops o h').1)

  changed_within : (w : World) (s t set : ℕ) → Within w → ((o : ℕ) → T (has set o) → T (has (w s t) o) ⊎ T (has (granted gs s t) o)) → Within (with_pair w s t set)
  changed_within w s t set v h x y =
      with_pair_cases (λ a b c. (o : ℕ) → T (has c o) → T (has (bit_or (m.written a b) (granted gs a b)) o)) w s t set x y
      (λ o k. ⊎_elim (v s t o) (has_right (m.written s t) (granted gs s t) o) (h o k)) (v x y)

  run_within : {w : World} {is : List Interaction} → Within w → Run m.permitted gs w is → AllByRecursion (Can m gs) is
  run_within v stop = tt
  run_within {w} v (add k s t part p r) =
      run_within (changed_within w s t (bit_or (w s t) part) v (λ o h. ⊎_elim inl (λ q. inr (permits_granted o p q)) (or_has (w s t) part o h))) r
  run_within {w} v (remove k s t part p r) =
      run_within (changed_within w s t (without (w s t) part) v (λ o h. inl (without_has (w s t) part o h))) r
  run_within v (act i a b r) = (has_both (m.permitted _ _) _ i.operation b (v _ _ _ a), run_within v r)

  -- from a world that has kept what was written: each granted operation is added right before it is used
  abbrev Keeps : World → Type 0
  Keeps w = (s t o : ℕ) → T (has (m.written s t) o) → T (has (w s t) o)

  added_keeps : (w : World) (s t part : ℕ) → Keeps w → Keeps (added w s t part)
  added_keeps w s t part v x y =
      with_pair_cases (λ a b c. (o : ℕ) → T (has (m.written a b) o) → T (has c o)) w s t (bit_or (w s t) part) x y
      (λ o h. has_left (w s t) part o (v s t o h)) (v x y)

  one_bit : (s t o : ℕ) (g : Granting gs s t o) → Permits gs g.number s t (2 ^ o)
  one_bit s t o g = record { over = g.over; within = power_and o g.over.grant.operations g.gives; some = λ e. omega (arith, pow_pos o) }

  run_from : (is : List Interaction) (w : World) → Keeps w → AllByRecursion (Can m gs) is → Run m.permitted gs w is
  run_from [] w v h = stop
  run_from (i ∷ is) w v h =
      let s = i.subject in
      let t = i.target in
      let o = i.operation in
      let c = and_has (m.permitted s t) (bit_or (m.written s t) (granted gs s t)) o h.0 in
      ⊎_elim
      (λ p. act i (v s t o p) c.0 (run_from is w v h.1))
      (λ p. let g = granting gs s t o p in
      add g.number s t (2 ^ o) (one_bit s t o g)
      (act i (subst (λ x. T (has x o)) (sym (with_pair_there w s t (bit_or (w s t) (2 ^ o)))) (has_right (w s t) (2 ^ o) o (power_has o))) c.0
      (run_from is _ (added_keeps w s t (2 ^ o) v) h.1)))
      (or_has (m.written s t) (granted gs s t) o c.1)

  -- a list of interactions is a legal run's exactly where each is possible
  pub reduction : (is : List Interaction) → Legal m gs is ↔ AllByRecursion (Can m gs) is
  reduction is = (run_within (λ s t o h. has_left (m.written s t) (granted gs s t) o h), run_from is m.written (λ s t o h. h))
