-- What is worked out of each pair, in sets of contexts.
use Rattle.std.proofs.Common.{◌≡◌, ℕ, Bool, true, false, not, ◌&&◌, ◌||◌, T, eqb, sym, ap, ap₂, ◌∙◌, subst, ⊎_elim, ◌⊎◌, inl, inr}
use lib.Bits.{bit_and, bit_or, and_zero_l, and_zero_r}
use Rattle.std.proofs.lemmas.Bool.{cases_Bool, and_left, and_right, or_from}
use Rattle.access.specs.Operations.{kind_of, set_of, any_op, read_op, write_op, become_op}
use Rattle.access.specs.declared.operation.Kind.{Kind}
use Rattle.access.specs.declared.operation.Kind.TheVariants.{Neither}
use Rattle.access.specs.Contexts.{inside, both_inside, member}
use Rattle.access.specs.declared.context_set.ContextSet.{ContextSet}
use Rattle.access.specs.Policy.{Meaning}
use Rattle.access.specs.Sound.{Sound}
use Rattle.access.proofs.Bits.{has_none, same_bits}
use Rattle.access.proofs.Tests.{T_false}
use Rattle.verdicts.specs.Runs.{Grants}
use Rattle.verdicts.specs.Activities.{transfer, contact}
use Rattle.verdicts.specs.Possible.{possible, granted, makeable, some_op}
use Rattle.verdicts.proofs.Moves.{some_op_found}
use Rattle.judge.specs.Contextual.{value_of, IsSetOf}
use Rattle.judge.specs.Done.{allowed, IsEmpty, IsNothing, DoneBy, Given}
use Rattle.judge.specs.declared.by_context.ByContext.{ByContext}
use Rattle.judge.specs.declared.doings.Doings.{Doings}
use Rattle.judge.proofs.Selected.{of_kinds, some_in, whole}

-- no operation of the empty set passes a test
some_none : (test : ℕ → Bool) → some_op test 0 ≡ false
some_none test = T_false _ (λ h. let r = some_op_found test 0 h in subst T (has_none r.0) r.2)

module _ (m : Meaning) (gs : Grants) (l : Sound m) where
  abbrev n : ℕ
  n = m.contexts

  pub possible_outside : (s t : ℕ) → both_inside n s t ≡ false → possible m gs s t ≡ 0
  possible_outside s t e = ap (λ x. bit_and x (bit_or (m.written s t) (granted gs s t))) (l.permitted_inside s t e) ∙ and_zero_l (bit_or (m.written s t) (granted gs s t))

  pub allowed_outside : (s t : ℕ) → both_inside n s t ≡ false → allowed m s t ≡ 0
  allowed_outside s t e = ap (bit_and (m.written s t)) (l.permitted_inside s t e) ∙ and_zero_r (m.written s t)

  -- a set that was made of the operations on the pairs of one context has the targets on which some of them are of a set
  module _ (on : ℕ → ℕ → ℕ) (none_outside : (s t : ℕ) → both_inside n s t ≡ false → on s t ≡ 0) (s : ℕ) (bits : ℕ → ℕ) (is : (t : ℕ) → inside n t ≡ true → bits t ≡ on s t)
      (set : ContextSet) (among : ℕ) (told : IsSetOf (λ t. inside n t && not (eqb (bit_and among (bits t)) 0)) set) where
    set_hits : IsSetOf (λ t. not (eqb (bit_and among (on s t)) 0)) set
    set_hits t =
        ⊎_elim
        (λ (e : inside n t ≡ true). told t ∙ ap₂ (λ b x. b && not (eqb (bit_and among x) 0)) e (is t e))
        (λ (e : inside n t ≡ false). told t ∙ ap (λ b. b && not (eqb (bit_and among (bits t)) 0)) e ∙ sym (ap (λ x. not (eqb x 0)) (ap (bit_and among) (none_outside s t (and_right (inside n s) (inside n t) e)) ∙ and_zero_r among)))
        (cases_Bool (inside n t))

    pub set_of_kinds : (test : Kind → Bool) → (T (test Neither) → ⊥) → among ≡ of_kinds test → IsSetOf (λ t. some_op (λ o. test (kind_of o)) (on s t)) set
    set_of_kinds test none e t = set_hits t ∙ ap (λ x. not (eqb (bit_and x (on s t)) 0)) e ∙ some_in test none (on s t)

  pub set_of_any : (s : ℕ) (bits : ℕ → ℕ) → ((t : ℕ) → inside n t ≡ true → bits t ≡ possible m gs s t) → (set : ContextSet) (among : ℕ) → IsSetOf (λ t. inside n t && not (eqb (bit_and among (bits t)) 0)) set
      → among ≡ set_of any_op 12 → IsSetOf (λ t. makeable m gs (contact s t)) set
  set_of_any s bits is set among told e t =
      set_hits (possible m gs) possible_outside s bits is set among told t ∙ ap (λ x. not (eqb x 0)) (ap (λ x. bit_and x (possible m gs s t)) e ∙ same_bits _ _ (whole m gs l s t))

  -- outside the contexts no operation passes a test
  pub some_outside : (test : ℕ → Bool) (s t : ℕ) → both_inside n s t ≡ false → some_op test (possible m gs s t) ≡ false
  some_outside test s t e = ap (some_op test) (possible_outside s t e) ∙ some_none test

  -- nor does one that is none take part in a move
  pair_none : (s t : ℕ) → (inside n s ≡ false) ⊎ (inside n t ≡ false) → (both_inside n s t ≡ false) × (both_inside n t s ≡ false)
  pair_none s t (inl e) = (and_left (inside n s) (inside n t) e, and_right (inside n t) (inside n s) e)
  pair_none s t (inr e) = (and_right (inside n s) (inside n t) e, and_left (inside n t) (inside n s) e)

  transfer_none : (g k : ℕ) → (inside n g ≡ false) ⊎ (inside n k ≡ false) → makeable m gs (transfer g k) ≡ false
  transfer_none g k e = let p = pair_none g k e in or_from _ _ (some_outside write_op g k p.0) (some_outside read_op k g p.1)

  -- a number that is no context can do nothing
  pub nothing_done : (s : ℕ) (d : Doings) → inside n s ≡ false → IsNothing d → DoneBy m gs s d
  nothing_done s d e none =
      let out = λ (t : ℕ). (pair_none s t (inl e)).0 in
      record {
        becoming = λ t. none.0 t ∙ sym (some_outside become_op s t (out t));
        writing = λ t. none.1 t ∙ sym (some_outside write_op s t (out t));
        reading = λ t. none.2 t ∙ sym (some_outside read_op s t (out t));
        reading_alone = λ t. none.3 t ∙ sym (ap (some_op read_op) (allowed_outside s t (out t)) ∙ some_none read_op);
        doing = λ t. none.4 t ∙ sym (ap (λ x. not (eqb x 0)) (possible_outside s t (out t)));
      }

  -- the transfers from one context, and those to one
  module _ (doings : ByContext Doings) (done : (s : ℕ) → DoneBy m gs s (value_of doings s)) (g : ℕ) (set : ContextSet) where
    pub giving_told : IsSetOf (λ d. inside n d && (member (value_of doings g).writing d || member (value_of doings d).reading g)) set → IsSetOf (λ k. makeable m gs (transfer g k)) set
    giving_told told k =
        ⊎_elim
        (λ (e : inside n k ≡ true). told k ∙ ap₂ ◌&&◌ e (ap₂ ◌||◌ ((done g).writing k) ((done k).reading g)))
        (λ (e : inside n k ≡ false). told k ∙ and_left (inside n k) _ e ∙ sym (transfer_none g k (inr e)))
        (cases_Bool (inside n k))

  pub giving_none : (g : ℕ) (set : ContextSet) → inside n g ≡ false → IsEmpty set → IsSetOf (λ k. makeable m gs (transfer g k)) set
  giving_none g set e none k = none k ∙ sym (transfer_none g k (inl e))

  pub getting_told : (giving : ByContext ContextSet) → Given m gs giving → (k : ℕ) (set : ContextSet) → IsSetOf (λ d. inside n d && member (value_of giving d) k) set → IsSetOf (λ g. makeable m gs (transfer g k)) set
  getting_told giving given k set told g =
      ⊎_elim
      (λ (e : inside n g ≡ true). told g ∙ ap₂ ◌&&◌ e (given g k))
      (λ (e : inside n g ≡ false). told g ∙ and_left (inside n g) _ e ∙ sym (transfer_none g k (inl e)))
      (cases_Bool (inside n g))

  pub getting_none : (k : ℕ) (set : ContextSet) → inside n k ≡ false → IsEmpty set → IsSetOf (λ g. makeable m gs (transfer g k)) set
  getting_none k set e none g = none g ∙ sym (transfer_none g k (inr e))
