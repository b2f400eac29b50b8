-- The worked cases, each settled by computing: the forbidden activity where there is one, and labels that show how far every
-- forbidden activity has to go.
use Rattle.std.proofs.Common.{◌≡◌, ℕ, Bool, true, false, not, ◌&&◌, ◌||◌, eqb, ltb, [], ◌∷◌, sym, refl, ap, ap₂, ◌∙◌, arith}
use Rattle.access.specs.Contexts.{inside, member, some_to, meet}
use Rattle.access.specs.declared.context_set.ContextSet.{ContextSet}
use Rattle.access.specs.declared.operation.Operation.TheVariants.{Read, Write, Append, Become}
use Rattle.access.specs.Policy.{Meaning}
use Rattle.access.specs.Sound.{Sound, row, pairs}
use Rattle.verdicts.specs.Activities.{transition, transfer, contact, same, next}
use Rattle.verdicts.specs.Verdicts.{Guaranteed, Broken}
use Rattle.verdicts.proofs.Inside.{Inside, sound_inside}
use Rattle.verdicts.proofs.Decided.{direct_from}
use Rattle.access.proofs.ContextLaws.{above_zero}
use Rattle.access.specs.declared.property.Template.{Template}
use Rattle.access.specs.declared.property.Template.TheVariants.{Integrity, Confidentiality, Domain, Consistency}
use Rattle.access.specs.Fitness.{unfit, unfit_second}
use Rattle.sheet.specs.Book.{start, refusal}
use Rattle.sheet.specs.declared.request.Request.TheVariants.{EnterProperty}
use Rattle.worked_cases.specs.Entered.{Only, Meets}
use Rattle.worked_cases.specs.Vectors.{flat, raised, step}
use Rattle.worked_cases.specs.Controller.{keypad, maint, opening, log, controller, controller_vectors, maintenance, keypad_off_opening, opening_from_keypad, clock_and_opening, maint_on_keypad, keypad_from_maint, detour, detour_vectors, one_off_four, WorkedCases}
use Rattle.worked_cases.proofs.Bounds.{labels, integrity_bound, confidentiality_bound, consistency_bound}
use Rattle.worked_cases.proofs.Steps.{domain_bound, broken, guaranteed}
use Rattle.worked_cases.proofs.Piles.{piled_sound}

abbrev level : Meaning
level = controller flat

abbrev stepped : Meaning
stepped = controller (raised opening)

level_sound : Sound level
unfolding row pairs
level_sound = piled_sound 5 flat controller_vectors tt (omega arith)

stepped_sound : Sound stepped
unfolding row pairs
stepped_sound = piled_sound 5 (raised opening) controller_vectors tt (omega arith)

detour_is_sound : Sound detour
unfolding row pairs
detour_is_sound = piled_sound 4 flat detour_vectors tt (omega arith)

level_inside : Inside level
level_inside = sound_inside level level_sound

reaches : Broken level maintenance keypad_off_opening (step keypad Append log 0 ∷ step maint Read log 0 ∷ step maint Write opening 1 ∷ [])
reaches =
    broken level maintenance keypad_off_opening (transfer keypad log ∷ transfer log maint ∷ transfer maint opening ∷ [])
    (record { from = keypad; to = opening; from_in = tt; to_in = tt; holds = record { via = keypad; transitions = []; transfers = _; becomes = same; goes = next keypad (next log (next maint same)); order = refl } })
    tt
    (integrity_bound level maintenance level_inside (keypad ∷ []) (opening ∷ []) 1 3 (λ a. labels (9 ∷ 9 ∷ 0 ∷ []) (9 ∷ 4 ∷ 0 ∷ 2 ∷ 3 ∷ 1 ∷ [])) tt)

never_leaks : Guaranteed level maintenance opening_from_keypad
never_leaks = guaranteed level maintenance opening_from_keypad (confidentiality_bound level maintenance level_inside (keypad ∷ []) (opening ∷ []) 0 1 (λ a. labels (9 ∷ 9 ∷ 0 ∷ []) []) tt)

enters : Broken level maintenance clock_and_opening (step maint Write opening 1 ∷ [])
enters =
    broken level maintenance clock_and_opening (contact maint opening ∷ [])
    (record { subject = maint; target = opening; across = tt; only = refl })
    tt
    (domain_bound level maintenance _)

tells : Broken level maintenance maint_on_keypad (step keypad Append log 0 ∷ step maint Read log 0 ∷ [])
tells =
    broken level maintenance maint_on_keypad (transfer keypad log ∷ transfer log maint ∷ [])
    (record { from = maint; to = keypad; from_in = tt; to_in = tt; holds = (next keypad (next log same), direct_from level maint keypad) })
    tt
    (consistency_bound level maintenance level_inside (maint ∷ []) (keypad ∷ []) 1 2 (λ a. labels (9 ∷ 9 ∷ 2 ∷ 0 ∷ 9 ∷ 1 ∷ []) []) tt)

learns : Broken level maintenance keypad_from_maint (step keypad Append log 0 ∷ step maint Read log 0 ∷ [])
learns =
    broken level maintenance keypad_from_maint (transfer keypad log ∷ transfer log maint ∷ [])
    (record { from = maint; to = keypad; from_in = tt; to_in = tt; holds = record { via = maint; transitions = []; transfers = _; becomes = same; goes = next keypad (next log same); order = refl } })
    tt
    (confidentiality_bound level maintenance level_inside (maint ∷ []) (keypad ∷ []) 1 2 (λ a. labels (9 ∷ 9 ∷ 9 ∷ 0 ∷ []) (9 ∷ 9 ∷ 2 ∷ 0 ∷ 9 ∷ 1 ∷ [])) tt)

no_grant : Guaranteed level [] keypad_off_opening
no_grant = guaranteed level [] keypad_off_opening (integrity_bound level [] level_inside (keypad ∷ []) (opening ∷ []) 0 1 (λ a. labels (9 ∷ 9 ∷ 0 ∷ []) (9 ∷ 9 ∷ 0 ∷ 0 ∷ 9 ∷ 0 ∷ [])) tt)

barred : Guaranteed stepped maintenance keypad_off_opening
barred =
    guaranteed stepped maintenance keypad_off_opening
    (integrity_bound stepped maintenance (sound_inside stepped stepped_sound) (keypad ∷ []) (opening ∷ []) 0 1 (λ a. labels (9 ∷ 9 ∷ 0 ∷ []) (9 ∷ 9 ∷ 0 ∷ 0 ∷ 9 ∷ 0 ∷ [])) tt)

three : Broken detour [] one_off_four (step 1 Become 3 0 ∷ step 3 Become 2 0 ∷ step 2 Become 4 0 ∷ [])
three =
    broken detour [] one_off_four (transition 1 3 ∷ transition 3 2 ∷ transition 2 4 ∷ [])
    (record { from = 1; to = 4; from_in = tt; to_in = tt; holds = record { via = 4; transitions = _; transfers = []; becomes = next 1 (next 3 (next 2 same)); goes = same; order = refl } })
    tt
    (integrity_bound detour [] (sound_inside detour detour_is_sound) (1 ∷ []) (4 ∷ []) 1 3 (λ a. labels (9 ∷ 0 ∷ 2 ∷ 1 ∷ 3 ∷ []) (9 ∷ 0 ∷ 1 ∷ [])) tt)

-- two tests that answer alike
some_same : (p q : ℕ → Bool) → ((d : ℕ) → p d ≡ q d) → some_to 256 p ≡ some_to 256 q
some_same p q h = sym (above_zero 256 p p (λ d. refl)) ∙ above_zero 256 p q h

-- a set that has context 1 alone is fit in a policy of five contexts
only_fit : (set : ContextSet) → Only 1 set → unfit 5 set ≡ false
unfolding some_to
only_fit set only = ap₂ (λ a b. a || not b) (some_same (λ c. ltb 5 c && member set c) (λ c. ltb 5 c && eqb c 1) (λ d. ap (λ b. ltb 5 d && b) (only d))) (some_same (member set) (λ c. eqb c 1) only)

-- two such sets share it
only_meet : (A B : ContextSet) → Only 1 A → Only 1 B → meet A B ≡ true
unfolding some_to
only_meet A B a b = some_same (λ c. member A c && member B c) (λ c. eqb c 1 && eqb c 1) (λ d. ap₂ (λ x y. x && y) (a d) (b d))

shared : (k : ℕ) (t : Template) (A B : ContextSet) → inside 64 k ≡ true → (t ≡ Domain → ⊥) → Only 1 A → Only 1 B → Meets 7 (refusal (start level) (EnterProperty k (record { template = t; first = A; second = B })))
shared k t A B i not_domain a b = rw i (rw (only_fit A a) (rw (second t not_domain) (rw (only_meet A B a b) refl)))
  where
    second : (t : Template) → (t ≡ Domain → ⊥) → unfit_second 5 t B ≡ false
    second Integrity n = only_fit B b
    second Confidentiality n = only_fit B b
    second Domain n = absurd (n refl)
    second Consistency n = only_fit B b

pub worked_cases : WorkedCases
worked_cases =
    record {
      controller_sound = level_sound;
      raised_sound = stepped_sound;
      detour_sound = detour_is_sound;
      keypad_reaches_opening = reaches;
      opening_never_leaks = never_leaks;
      maint_enters_domain = enters;
      log_tells_maint = tells;
      maint_learns_of_keypad = learns;
      no_grant_no_reach = no_grant;
      level_bars_reach = barred;
      detour_takes_three = three;
      one_off_itself = shared;
    }
