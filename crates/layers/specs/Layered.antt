-- A layer takes over what stands below it, and keeps a policy sound where it permits no more.
use Rattle.std.specs.Prelude.{◌≡◌, ℕ, ◌≤◌, Some, None, Option, refl}
use Rattle.std.proofs.Common.{arith}
use Rattle.access.specs.Policy.{Matrix, Meaning, with_permitted}
use Rattle.access.specs.Sound.{Sound}
use Rattle.access.specs.Refusals.{when_accepted}
use Rattle.access.specs.Setting.{with_set}
use Rattle.access.specs.declared.refusal.Refusal.{Refusal}
use Rattle.layers.specs.Layers.{with_rule, level_rule, owner_rule}

-- of any layer, also one that looks at more than the pair at hand
module _ (rule : Matrix → Matrix) where
  abbrev pub layered : Meaning → Meaning
  layered m = with_permitted m (rule m.permitted)

  pub layer_sound : (m : Meaning) → ((s t : ℕ) → rule m.permitted s t ≤ m.permitted s t) → Sound m → Sound (layered m)
  layer_sound m less ok = record {
    a_context = ok.a_context;
    few_contexts = ok.few_contexts;
    written_inside = ok.written_inside;
    permitted_inside = λ s t out. let e = ok.permitted_inside s t out in let l = less s t in omega (arith, e, l);
    written_known = ok.written_known;
    permitted_known = λ s t. let k = ok.permitted_known s t in let l = less s t in omega (arith, k, l);
    room = ok.room;
  }

  -- a setting goes through a layer
  pub layer_set : (m : Meaning) (o : Option Refusal) (s t v : ℕ) → layered (when_accepted o (with_set m s t v) m) ≡ when_accepted o (with_set (layered m) s t v) (layered m)
  layer_set m None s t v = refl
  layer_set m (Some r) s t v = refl

-- the same of one that goes by a rule, pair by pair
pub rule_sound : (rule : ℕ → ℕ → ℕ → ℕ) → ((s t set : ℕ) → rule s t set ≤ set) → (m : Meaning) → Sound m → Sound (with_rule m rule)
rule_sound rule no_more m = layer_sound (λ below s t. rule s t (below s t)) m (λ s t. no_more s t (m.permitted s t))

pub level_leaves_no_more : (level : ℕ → ℕ) (s t set : ℕ) → level_rule level s t set ≤ set
level_leaves_no_more level s t set = omega arith

pub owner_leaves_no_more : (owner : ℕ → ℕ) (constrained s t set : ℕ) → owner_rule owner constrained s t set ≤ set
owner_leaves_no_more owner constrained s t set = omega arith
