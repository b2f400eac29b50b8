-- The worked cases: what the verdicts are for the controller of a time lock, and for a detour.
use Rattle.std.specs.Prelude.{◌≡◌, ℕ, true, List, [], ◌∷◌}
use Rattle.access.specs.Operations.{number_of, one}
use Rattle.access.specs.declared.operation.Operation.TheVariants.{Read, Write, Append, Update, Become}
use Rattle.access.specs.Contexts.{inside}
use Rattle.access.specs.declared.context_set.ContextSet.{ContextSet}
use Rattle.access.specs.Policy.{Meaning}
use Rattle.access.specs.Sound.{Sound}
use Rattle.verdicts.specs.Runs.{Grants}
use Rattle.verdicts.specs.Activities.{Property, integrity, confidentiality, domain, consistency}
use Rattle.verdicts.specs.Verdicts.{Guaranteed, Broken}
use Rattle.access.specs.declared.property.Template.{Template}
use Rattle.access.specs.declared.property.Template.TheVariants.{Domain}
use Rattle.sheet.specs.Book.{start, refusal}
use Rattle.sheet.specs.declared.request.Request.TheVariants.{EnterProperty}
use Rattle.worked_cases.specs.Vectors.{one_of, flat, raised, piled, step, Vector}
use Rattle.worked_cases.specs.Entered.{Only, Meets}

-- the controller's contexts
abbrev pub clock : ℕ
clock = 1

abbrev pub keypad : ℕ
keypad = 2

abbrev pub maint : ℕ
maint = 3

abbrev pub opening : ℕ
opening = 4

abbrev pub log : ℕ
log = 5

-- the clock updates the opening times, the keypad appends to the log, maintenance reads the log
abbrev pub controller_vectors : List Vector
controller_vectors = (clock, opening, Update) ∷ (keypad, log, Append) ∷ (maint, log, Read) ∷ []

-- the controller, with a level for each context
abbrev pub controller : (ℕ → ℕ) → Meaning
controller level = piled 5 level controller_vectors

-- grant 1: maintenance may be allowed to write the opening
abbrev pub maintenance : Grants
maintenance = (1, record { subjects = one_of (maint ∷ []); targets = one_of (opening ∷ []); operations = one (number_of Write) }) ∷ []

-- nothing that the keypad does reaches the opening
abbrev pub keypad_off_opening : Property
keypad_off_opening = integrity (one_of (keypad ∷ [])) (one_of (opening ∷ []))

-- nothing of the opening comes to the keypad
abbrev pub opening_from_keypad : Property
opening_from_keypad = confidentiality (one_of (keypad ∷ [])) (one_of (opening ∷ []))

-- the clock and the opening keep to themselves
abbrev pub clock_and_opening : Property
clock_and_opening = domain (one_of (clock ∷ opening ∷ []))

-- maintenance gets from the keypad only what it may read there
abbrev pub maint_on_keypad : Property
maint_on_keypad = consistency (one_of (maint ∷ [])) (one_of (keypad ∷ []))

-- nothing of the keypad comes to maintenance
abbrev pub keypad_from_maint : Property
keypad_from_maint = confidentiality (one_of (maint ∷ [])) (one_of (keypad ∷ []))

-- context 1 writes 2 and becomes 3, 3 becomes 2, 2 becomes 4
abbrev pub detour_vectors : List Vector
detour_vectors = (1, 2, Write) ∷ (1, 3, Become) ∷ (3, 2, Become) ∷ (2, 4, Become) ∷ []

-- four contexts with these vectors alone
abbrev pub detour : Meaning
detour = piled 4 flat detour_vectors

-- nothing that context 1 does reaches context 4
abbrev pub one_off_four : Property
one_off_four = integrity (one_of (1 ∷ [])) (one_of (4 ∷ []))

-- the worked cases
pub record WorkedCases : Type 0 where
  -- the policies are sound
  pub controller_sound : Sound (controller flat)
  pub raised_sound : Sound (controller (raised opening))
  pub detour_sound : Sound detour
  -- the keypad reaches the opening by the log and by maintenance, which needs the grant
  pub keypad_reaches_opening : Broken (controller flat) maintenance keypad_off_opening (step keypad Append log 0 ∷ step maint Read log 0 ∷ step maint Write opening 1 ∷ [])
  -- nothing of the opening comes to the keypad
  pub opening_never_leaks : Guaranteed (controller flat) maintenance opening_from_keypad
  -- maintenance writes from outside the domain into it
  pub maint_enters_domain : Broken (controller flat) maintenance clock_and_opening (step maint Write opening 1 ∷ [])
  -- maintenance gets from the keypad by the log what it may not read at the keypad itself
  pub log_tells_maint : Broken (controller flat) maintenance maint_on_keypad (step keypad Append log 0 ∷ step maint Read log 0 ∷ [])
  -- which breaks confidentiality too
  pub maint_learns_of_keypad : Broken (controller flat) maintenance keypad_from_maint (step keypad Append log 0 ∷ step maint Read log 0 ∷ [])
  -- without the grant the keypad does not reach the opening
  pub no_grant_no_reach : Guaranteed (controller flat) [] keypad_off_opening
  -- nor with the grant, where the opening is at a higher level: a granted operation still has to be permitted
  pub level_bars_reach : Guaranteed (controller (raised opening)) maintenance keypad_off_opening
  -- 1 writes 2 at once, but no transition follows a transfer: 4 is reached by transitions alone, and these go by 3
  pub detour_takes_three : Broken detour [] one_off_four (step 1 Become 3 0 ∷ step 3 Become 2 0 ∷ step 2 Become 4 0 ∷ [])
  -- entering {1} against {1} on the controller's sheet meets refusal 7, under every number and in every template that uses both sets
  pub one_off_itself : (k : ℕ) (t : Template) (A B : ContextSet) → inside 64 k ≡ true → (t ≡ Domain → ⊥) → Only 1 A → Only 1 B → Meets 7 (refusal (start (controller flat)) (EnterProperty k (record { template = t; first = A; second = B })))
