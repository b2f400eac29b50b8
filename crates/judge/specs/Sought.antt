-- What seeking answers.
use Rattle.std.specs.Prelude.{◌≡◌, ℕ, ◌*◌, Bool, true, false, ◌||◌, List, length, drop, Ok, Err, Option, Result, nat_lt}
use Rattle.access.specs.Policy.{Meaning}
use Rattle.access.specs.Refusals.{refusal_number}
use Rattle.access.specs.declared.refusal.Refusal.{Refusal}
use Rattle.verdicts.specs.Runs.{Grants}
use Rattle.verdicts.specs.Activities.{Move}
use Rattle.search.specs.declared.breadth_first.Place.{Place}
use Rattle.judge.specs.declared.step.Step.{Step}
use Rattle.judge.specs.Found.{Leads, Measured, Searched}
use Rattle.judge.specs.Plan.{among}

-- so many ticks and places are too few for measuring, which needs one of each for each of n contexts in each phase
abbrev pub too_few : ℕ → ℕ → ℕ → ℕ → Bool
too_few phases n ticks places = nat_lt ticks (phases * n) || nat_lt places (phases * n)

-- the lent memory is too short for seeking, which needs a step for each context besides
abbrev pub short : ℕ → ℕ → ℕ → ℕ → ℕ → Bool
short phases n ticks places steps = too_few phases n ticks places || nat_lt steps n

-- the lent ticks and places are enough for measuring, and with the lent steps for seeking
abbrev pub SearchRoom : ℕ → ℕ → List ℕ → List Place → Type 0
SearchRoom phases n ts ps = too_few phases n (length ts) (length ps) ≡ false

abbrev pub Suffices : ℕ → ℕ → List ℕ → List Place → List Step → Type 0
Suffices phases n ts ps ss = short phases n (length ts) (length ps) (length ss) ≡ false

-- refused with 12 exactly where the memory is too short, the places and the steps as before; else what the search found of
-- the activities that lead from a context of A to one of B, and of the places no more written than one for each context in each phase
abbrev pub Answered : ℕ → Meaning → Grants → (ℕ → ℕ → List Move → Type 0) → Bool → (ℕ → Bool) → (ℕ → Bool) → List ℕ → List Place → List Place → List Step → List Step → Result (Option ℕ) Refusal → Type 0
Answered phases m gs activities back A B ts ps ps' ss ss' (Ok r) = Suffices phases m.contexts ts ps ss × Searched m gs (Leads activities (among m.contexts A) B) back ss ss' r × (drop (phases * m.contexts) ps' ≡ drop (phases * m.contexts) ps)
Answered phases m gs activities back A B ts ps ps' ss ss' (Err why) = (refusal_number why ≡ 12) × (short phases m.contexts (length ts) (length ps) (length ss) ≡ true) × (ps' ≡ ps) × (ss' ≡ ss)

-- refused with 12 exactly where ticks or places are too few, the places as before; else how many moves the shortest of
-- those activities has, and no more of the places written
abbrev pub ToldLength : ℕ → Meaning → Grants → (ℕ → ℕ → List Move → Type 0) → (ℕ → Bool) → (ℕ → Bool) → List ℕ → List Place → List Place → Result (Option ℕ) Refusal → Type 0
ToldLength phases m gs activities A B ts ps ps' (Ok r) = SearchRoom phases m.contexts ts ps × Measured m gs (Leads activities (among m.contexts A) B) r × (drop (phases * m.contexts) ps' ≡ drop (phases * m.contexts) ps)
ToldLength phases m gs activities A B ts ps ps' (Err why) = (refusal_number why ≡ 12) × (too_few phases m.contexts (length ts) (length ps) ≡ true) × (ps' ≡ ps)
