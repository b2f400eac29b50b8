-- Slots are apart, and writing one leaves the others.
use Rattle.std.proofs.Common.{◌≡◌, ℕ, suc, ◌+◌, ◌-◌, ◌<◌, ◌≤◌, Bool, true, false, ◌≢◌, List, length, get_or, set, sym, ◌∙◌, subst, ⊎_elim, arith, get_or-set_other, get_or-set_same}
use Rattle.std.proofs.lemmas.Bool.{cases_eq}
use Rattle.std.proofs.lemmas.Bool.Decides.{nat_tests}
use Rattle.access.specs.Policy.{Meaning}
use Rattle.verdicts.specs.Runs.{Grants}
use Rattle.verdicts.specs.Searches.{Search}
use Rattle.judge.specs.declared.step.Step.{Step}
use Rattle.judge.specs.Nodes.{move_of, slot}
use Rattle.judge.specs.Traced.{blank, Shows, ShownFrom, SameFrom}

pub slot_back : (t k d : ℕ) → t ≤ d → slot true t k d ≡ t + (k - suc d)
slot_back t k d h = grind (arith, nat_tests)

pub slot_front : (t k d : ℕ) → d < t → slot true t k d ≡ d
slot_front t k d h = grind (arith, nat_tests)

pub slot_below : (back : Bool) (t k d : ℕ) → t ≤ k → d < k → slot back t k d < k
slot_below false t k d h b = b
slot_below true t k d h b = grind (arith, nat_tests)

slot_apart : (back : Bool) (t k d e : ℕ) → t ≤ k → d < e → e < k → slot back t k e ≢ slot back t k d
slot_apart false t k d e h a b z = omega arith
slot_apart true t k d e h a b z = grind (arith, nat_tests)

-- one more step is written
module _ (kind : Search) (m : Meaning) (gs : Grants) (back : Bool) (way : ℕ → ℕ) (t k left : ℕ) (ss : List Step) (h : t ≤ k) (b : left < k) (f : k ≤ length ss) (s : Step) where
  abbrev i : ℕ
  i = slot back t k left

  pub shown_more : Shows m gs (move_of kind m.contexts (way left) (way (suc left))) s → ShownFrom kind m gs back way t k (suc left) ss → ShownFrom kind m gs back way t k left (set ss i s)
  shown_more w r d l e =
      ⊎_elim
      (λ (q : d ≡ left). subst (λ j. Shows m gs (move_of kind m.contexts (way j) (way (suc j))) (get_or (set ss i s) (slot back t k j) blank)) (sym q)
      (subst (Shows m gs (move_of kind m.contexts (way left) (way (suc left)))) (sym (get_or-set_same ss i s blank (omega (arith, slot_below back t k left h b)))) w))
      (λ (q : d ≡ left → ⊥).
      subst (Shows m gs (move_of kind m.contexts (way d) (way (suc d)))) (sym (get_or-set_other ss i (slot back t k d) s blank (slot_apart back t k left d h (omega arith) e))) (r d (omega arith) e))
      (cases_eq d left)

  pub same_more : (ss₀ : List Step) → SameFrom k ss₀ ss → SameFrom k ss₀ (set ss i s)
  same_more ss₀ r j l = let ne : j ≢ i = omega (arith, slot_below back t k left h b) in get_or-set_other ss i j s blank ne ∙ r j l
