-- Sets that hold just the possible operations of some kinds, and what their lowest operation shows.
use Rattle.std.proofs.Common.{◌≡◌, ℕ, ◌<◌, Bool, true, false, not, ◌&&◌, T, eqb, ltb, [], ◌∷◌, Some, None, Option, sym, refl, ap, ◌∙◌, subst, subst₂, inl, inr, ⊎_elim, arith, eqb→eq, T_not, MatchOption}
use lib.Bits.{bit_and}
use lib.Dec.{not_T}
use Rattle.std.proofs.lemmas.Bool.Decides.{nat_tests}
use Rattle.std.specs.Option.{option_or, IsSome}
use Rattle.access.specs.Operations.{Lowest, LacksAll, number_of, kind_of, has, set_of, read_op, write_op, any_op}
use Rattle.access.specs.declared.operation.Kind.{Kind}
use Rattle.access.specs.declared.operation.Kind.TheVariants.{Neither}
use Rattle.access.specs.Policy.{Meaning}
use Rattle.access.specs.Sound.{Sound}
use Rattle.access.proofs.Bits.{has_none, has_some, has_and}
use Rattle.access.proofs.Tests.{both, T_true, T_false}
use Rattle.access.proofs.OperationLaws.{has_set_of, has_kinds, kind_below}
use Rattle.verdicts.specs.Runs.{Grants}
use Rattle.verdicts.specs.Activities.{Move, transfer, contact}
use Rattle.verdicts.specs.Possible.{possible, some_op, makeable}
use Rattle.verdicts.specs.Verdicts.{LowestPossible, NonePossible, Origin}
use Rattle.verdicts.proofs.Reduction.{reduction, and_has}
use Rattle.verdicts.proofs.Moves.{does_has, some_op_from, some_op_found, makeable_done}
use Rattle.verdicts.proofs.Lowest.{lowest_in}
use Rattle.verdicts.proofs.Inside.{sound_twelve}
use Rattle.judge.specs.declared.step.Step.{Step}
use Rattle.judge.specs.Grants.{doing}
use Rattle.judge.specs.Moved.{stepped, ShownAs, LowestOf}

-- the operations of some kinds
abbrev pub of_kinds : (Kind → Bool) → ℕ
of_kinds test = set_of (λ o. test (kind_of o)) 12

same_test : (a b : Bool) → (T a → T b) → (T b → T a) → a ≡ b
same_test true b f g = sym (T_true b (f tt))
same_test false b f g = sym (T_false b g)

masked : (test : Kind → Bool) → (T (test Neither) → ⊥) → (set o : ℕ) → has (bit_and (of_kinds test) set) o ≡ (test (kind_of o) && has set o)
masked test n set o = has_and (of_kinds test) set o ∙ ap (λ b. b && has set o) (has_kinds test o n)

-- a set has an operation of some kinds just where what they have in common is not empty
pub some_in : (test : Kind → Bool) → (T (test Neither) → ⊥) → (set : ℕ) → not (eqb (bit_and (of_kinds test) set) 0) ≡ some_op (λ o. test (kind_of o)) set
some_in test n set = same_test _ _ found from
  where
    found : T (not (eqb (bit_and (of_kinds test) set) 0)) → T (some_op (λ o. test (kind_of o)) set)
    found h =
        let r = has_some (bit_and (of_kinds test) set) (λ e. T_not (eqb (bit_and (of_kinds test) set) 0) h (subst (λ x. T (eqb x 0)) (sym e) tt)) in
        let c = and_has (of_kinds test) set r.0 r.1 in
        let k = subst T (has_kinds test r.0 n) c.0 in
        some_op_from (λ o. test (kind_of o)) set r.0 (kind_below test r.0 n k) k c.1

    from : T (some_op (λ o. test (kind_of o)) set) → T (not (eqb (bit_and (of_kinds test) set) 0))
    from h =
        let r = some_op_found (λ o. test (kind_of o)) set h in
        not_T (eqb (bit_and (of_kinds test) set) 0) (λ e. subst T (has_none r.0)
        (subst (λ x. T (has x r.0)) (eqb→eq _ 0 e) (subst T (sym (masked test n set r.0)) (both (test (kind_of r.0)) _ r.1 r.2))))

module _ (m : Meaning) (gs : Grants) where
  -- a set holds just what is possible on a pair and passes a test
  record Selects (s t : ℕ) (test : ℕ → Bool) (set : ℕ) : Type 0 where
    pub is : (o : ℕ) → has set o ≡ (test o && has (possible m gs s t) o)
    pub below : (o : ℕ) → T (test o) → T (has (possible m gs s t) o) → o < 12

  by_kinds : (test : Kind → Bool) → (T (test Neither) → ⊥) → (s t : ℕ) → Selects s t (λ o. test (kind_of o)) (bit_and (of_kinds test) (possible m gs s t))
  by_kinds test n s t = record { is = masked test n (possible m gs s t); below = λ o h _. kind_below test o n h }

  -- only the twelve operations are possible
  pub whole : Sound m → (s t o : ℕ) → has (bit_and (set_of any_op 12) (possible m gs s t)) o ≡ has (possible m gs s t) o
  whole l s t o = has_and (set_of any_op 12) _ o ∙ ap (λ b. b && has (possible m gs s t) o) (has_set_of any_op 12 o) ∙ go o (has (possible m gs s t) o) (sound_twelve m gs l s t o)
    where
      go : (o : ℕ) (b : Bool) → (T b → o < 12) → ((ltb o 12 && true) && b) ≡ b
      go o true f = let h = f tt in grind (arith, nat_tests)
      go o false f = grind (arith, nat_tests)

  by_any : Sound m → (s t : ℕ) → Selects s t any_op (bit_and (set_of any_op 12) (possible m gs s t))
  by_any l s t = record { is = whole l s t; below = λ o _ h. sound_twelve m gs l s t o h }

  module _ {s t : ℕ} {test : ℕ → Bool} {set : ℕ} (sel : Selects s t test set) where
    none_selected : LacksAll set → NonePossible m gs s t test
    none_selected lacks j w p =
        let o = j.operation in
        let h = does_has m gs w ((reduction m gs (j ∷ [])).0 p).0 in
        subst T (sym (sel.is o) ∙ lacks o (sel.below o w.fits h)) (both (test o) _ w.fits h)

    lowest_selected : {o : ℕ} → Lowest set o → LowestPossible m gs s t test (doing s t o)
    lowest_selected {o} l = lowest_in m gs s t test set o sel.is l

  -- what a made set has for its lowest is possible
  pub lowest_can : (s t among set x o : ℕ) → set ≡ bit_and among x → x ≡ possible m gs s t → Lowest set o → T (has (possible m gs s t) o)
  lowest_can s t among set x o e f l = (and_has among (possible m gs s t) o (subst T (sym l.held ∙ ap (λ y. has y o) (e ∙ ap (bit_and among) f)) tt)).1

  -- ---- how a move is shown

  -- the step of the lowest possible operation that passes a test, if there is one
  abbrev ByLowest : ℕ → ℕ → (ℕ → Bool) → Option Step → Type 0
  ByLowest s t test r = MatchOption r (NonePossible m gs s t test) (λ step. LowestPossible m gs s t test (stepped step).interaction × Origin m gs (stepped step).interaction step.origin)

  by_lowest : (s t : ℕ) (test : ℕ → Bool) (among : ℕ) → Selects s t test (bit_and among (possible m gs s t)) → (r : Option Step) → LowestOf m gs s t among r → ByLowest s t test r
  by_lowest s t test among sel None h = none_selected sel h
  by_lowest s t test among sel (Some step) h =
      let o = number_of step.operation in
      subst₂ (λ a b. LowestPossible m gs s t test (doing a b o) × Origin m gs (doing a b o) step.origin) (sym h.by) (sym h.on) (lowest_selected sel h.lowest, h.from)

  pub shown_kinds : (test : Kind → Bool) → (T (test Neither) → ⊥) → (s t among : ℕ) → among ≡ of_kinds test → (r : Option Step) → LowestOf m gs s t among r → ByLowest s t (λ o. test (kind_of o)) r
  shown_kinds test n s t among e r h = by_lowest s t (λ o. test (kind_of o)) among (subst (λ x. Selects s t (λ o. test (kind_of o)) (bit_and x (possible m gs s t))) (sym e) (by_kinds test n s t)) r h

  pub shown_any : Sound m → (s t among : ℕ) → among ≡ set_of any_op 12 → (r : Option Step) → LowestOf m gs s t among r → ShownAs m gs (contact s t) r
  shown_any l s t among e r h = by_lowest s t any_op among (subst (λ x. Selects s t any_op (bit_and x (possible m gs s t))) (sym e) (by_any l s t)) r h

  -- by the giver's operation, and by the taker's where the giver has none
  pub shown_transfer : (g k : ℕ) (given taken : Option Step) → ByLowest g k write_op given → ByLowest k g read_op taken → ShownAs m gs (transfer g k) (option_or given taken)
  shown_transfer g k (Some step) taken h l = (inl h.0, h.1)
  shown_transfer g k None None h l = λ i w p. ⊎_elim (λ a. h i a p) (λ b. l i b p) w
  shown_transfer g k None (Some step) h l = (inr (h, l.0), l.1)

  -- a move that can be made is shown
  pub makeable_shown : (v : Move) → T (makeable m gs v) → (r : Option Step) → ShownAs m gs v r → IsSome r
  makeable_shown v h None n = let d = makeable_done m gs v h in absurd (n d.interaction d.makes ((reduction m gs (d.interaction ∷ [])).1 (d.can, tt)))
  makeable_shown v h (Some step) shown = refl
