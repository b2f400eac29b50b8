-- When a setting is accepted or refused.
use Rattle.std.proofs.Common.{◌≡◌, ℕ, ◌<◌, ◌≤◌, Bool, true, false, cond, not, Some, None, Ok, Err, Option, refl, ◌∙◌, ⊎_elim, arith}
use Rattle.std.proofs.lemmas.Bool.{cases_Bool, lt-leb}
use Rattle.std.proofs.lemmas.Bool.Decides.{nat_tests}
use Rattle.access.specs.Policy.{Meaning}
use Rattle.access.specs.Contexts.{both_inside}
use Rattle.access.specs.Sound.{filled}
use Rattle.access.specs.Refusals.{answer}
use Rattle.access.specs.Setting.{no_room, setting_refusal}
use Rattle.access.specs.declared.refusal.Refusal.{Refusal}
use Rattle.access.specs.declared.refusal.Refusal.TheVariants.{ContextOutside, PolicyFull}

pub pair_inside : (n s t : ℕ) → 1 ≤ s → s ≤ n → 1 ≤ t → t ≤ n → both_inside n s t ≡ true
pair_inside n s t a b c d = grind (arith, nat_tests)

pub pair_parts : (n s t : ℕ) → both_inside n s t ≡ true → (1 ≤ s) × (s ≤ n) × (1 ≤ t) × (t ≤ n)
pair_parts n s t h = grind (arith, nat_tests)

module _ (m : Meaning) (s t ops : ℕ) (inside : both_inside m.contexts s t ≡ true) (known : ops < 4096) where
  past : setting_refusal m s t ops ≡ cond (no_room m s t ops) (Some PolicyFull) None
  past = rw (inside, lt-leb 4096 ops known) refl

  pub accepted : ((ops ≡ 0 → ⊥) → m.written s t ≡ 0 → filled m ≡ m.capacity → ⊥) → setting_refusal m s t ops ≡ None
  accepted room = past ∙ ⊎_elim (λ h. absurd (none h)) (λ h. rw h refl) (cases_Bool (no_room m s t ops))
    where
      none : no_room m s t ops ≡ true → ⊥
      none h = room (λ z. grind (arith, nat_tests)) (grind (arith, nat_tests)) (grind (arith, nat_tests))

-- a setting is accepted only where its contexts are inside
pub accepted_inside : (m : Meaning) (s t ops : ℕ) → setting_refusal m s t ops ≡ None → both_inside m.contexts s t ≡ true
accepted_inside m s t ops e = go (both_inside m.contexts s t) _ e
  where
    go : (b : Bool) (rest : Option Refusal) → cond (not b) (Some ContextOutside) rest ≡ None → b ≡ true
    go true rest e = refl
    go false rest e = let z : ◌≡◌ {A = ℕ} 0 1 = cc in absurd (omega arith)

pub answer_err : (o : Option Refusal) (r : Refusal) → Err r ≡ answer o → o ≡ Some r
answer_err None r e = let z : ◌≡◌ {A = ℕ} 0 1 = cc in absurd (omega arith)
answer_err (Some q) r e = cc

pub answer_ok : (o : Option Refusal) → Ok tt ≡ answer o → o ≡ None
answer_ok None e = refl
answer_ok (Some q) e = let z : ◌≡◌ {A = ℕ} 0 1 = cc in absurd (omega arith)
