-- Which moves legal runs make: an activity is realised exactly where each of its moves can be made.
use Rattle.std.proofs.Common.{ℕ, ◌<◌, Bool, ◌&&◌, T, eqb, ◌↔◌, List, [], ◌∷◌, sym, refl, subst, subst₂, inl, inr, ⊎_elim, eqb→eq, T_not}
use lib.Dec.{not_T}
use Rattle.std.specs.List.{AllByRecursion}
use Rattle.access.specs.Operations.{kind_of, has, read_op, write_op, become_op, read_like, write_like, become_like}
use Rattle.access.specs.declared.operation.Kind.{Kind}
use Rattle.access.specs.declared.operation.Kind.TheVariants.{Neither}
use Rattle.access.specs.Policy.{Meaning, Interaction}
use Rattle.verdicts.specs.Runs.{Grants}
use Rattle.verdicts.specs.Activities.{Move, transition, transfer, contact, Does, Makes}
use Rattle.verdicts.specs.Possible.{possible, Can, some_op, makeable, CanMake}
use Rattle.verdicts.specs.Verdicts.{Pairwise, none, also, Realises}
use Rattle.access.proofs.OperationLaws.{kind_below}
use Rattle.access.proofs.Bits.{has_none, has_some}
use Rattle.access.proofs.Tests.{both, both_parts, left, right, either_part}
use Rattle.verdicts.proofs.Bounded.{any_found, any_from}
use Rattle.verdicts.proofs.Reduction.{reduction}

pub some_op_from : (test : ℕ → Bool) (set o : ℕ) → o < 12 → T (test o) → T (has set o) → T (some_op test set)
some_op_from test set o b p q = any_from (λ x. test x && has set x) 12 o b (both (test o) (has set o) p q)

pub some_op_found : (test : ℕ → Bool) (set : ℕ) → T (some_op test set) → (o : ℕ) × T (test o) × T (has set o)
some_op_found test set h = let r = any_found (λ x. test x && has set x) 12 h in let c = both_parts (test r.0) (has set r.0) r.2 in (r.0, c.0, c.1)

-- s does operation o on t
abbrev pub doing : ℕ → ℕ → ℕ → Interaction
doing s t o = record { subject = s; target = t; operation = o }

module _ (m : Meaning) (gs : Grants) where
  abbrev Set : ℕ → ℕ → ℕ
  Set = possible m gs

  pub does_has : {s t : ℕ} {test : ℕ → Bool} {i : Interaction} → Does s t test i → Can m gs i → T (has (Set s t) i.operation)
  does_has {i = i} d c = subst₂ (λ a b. T (has (Set a b) i.operation)) d.by d.on c

  -- an interaction that makes a move and can be done
  pub record Done (v : Move) : Type 0 where
    pub interaction : Interaction
    pub makes : Makes v interaction
    pub can : Can m gs interaction

  pub makeable_done : (v : Move) → T (makeable m gs v) → Done v
  makeable_done (transition c d) h = let r = some_op_found become_op (Set c d) h in record { interaction = doing c d r.0; makes = record { by = refl; on = refl; fits = r.1 }; can = r.2 }
  makeable_done (transfer g k) h =
      ⊎_elim
      (λ p. let r = some_op_found write_op (Set g k) p in record { interaction = doing g k r.0; makes = inl (record { by = refl; on = refl; fits = r.1 }); can = r.2 })
      (λ p. let r = some_op_found read_op (Set k g) p in record { interaction = doing k g r.0; makes = inr (record { by = refl; on = refl; fits = r.1 }); can = r.2 })
      (either_part (some_op write_op (Set g k)) (some_op read_op (Set k g)) h)
  makeable_done (contact s t) h =
      let r = has_some (Set s t) (λ e. T_not (eqb (Set s t) 0) h (subst (λ x. T (eqb x 0)) (sym e) tt)) in
      record { interaction = doing s t r.0; makes = record { by = refl; on = refl; fits = tt }; can = r.1 }

  pub made : {s t : ℕ} {i : Interaction} (test : Kind → Bool) → (T (test Neither) → ⊥) → Does s t (λ o. test (kind_of o)) i → Can m gs i → T (some_op (λ o. test (kind_of o)) (Set s t))
  made {s} {t} {i} test n d c = some_op_from (λ o. test (kind_of o)) (Set s t) i.operation (kind_below test i.operation n d.fits) d.fits (does_has d c)

  pub done_makeable : (v : Move) (i : Interaction) → Makes v i → Can m gs i → T (makeable m gs v)
  done_makeable (transition c d) i w h = made become_like (λ e. e) w h
  done_makeable (transfer g k) i w h =
      ⊎_elim
      (λ p. left (some_op write_op (Set g k)) _ (made write_like (λ e. e) p h))
      (λ p. right (some_op write_op (Set g k)) _ (made read_like (λ e. e) p h))
      w
  done_makeable (contact s t) i w h =
      not_T (eqb (Set s t) 0) (λ e. subst T (has_none i.operation) (subst (λ x. T (has x i.operation)) (eqb→eq (Set s t) 0 e) (does_has w h)))

  all_makeable : {ms : List Move} {is : List Interaction} → Pairwise Makes ms is → AllByRecursion (Can m gs) is → AllByRecursion (CanMake m gs) ms
  all_makeable none h = tt
  all_makeable (also {a = v} {b = i} w ws) h = (done_makeable v i w h.0, all_makeable ws h.1)

  all_done : (ms : List Move) → AllByRecursion (CanMake m gs) ms → (is : List Interaction) × Pairwise Makes ms is × AllByRecursion (Can m gs) is
  all_done [] h = ([], none, tt)
  all_done (v ∷ ms) h =
      let d = makeable_done v h.0 in
      let r = all_done ms h.1 in
      (d.interaction ∷ r.0, also d.makes r.1, (d.can, r.2))

  -- an activity is realised exactly where each of its moves can be made
  pub realised : (ms : List Move) → Realises m gs ms ↔ AllByRecursion (CanMake m gs) ms
  realised ms = (
    (λ r. all_makeable r.makes ((reduction m gs r.interactions).0 r.legal)),
    (λ h. let d = all_done ms h in record { interactions = d.0; makes = d.1; legal = (reduction m gs d.0).1 d.2 }),
  )
