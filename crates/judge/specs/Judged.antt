-- What the code's properties mean, and what its verdicts say.
use Rattle.std.specs.Prelude.{◌≡◌, ℕ, Bool, ◌↔◌, List, [], ◌∷◌, length, drop, Some, None, Ok, Err, Option, Result}
use Rattle.std.specs.Option.{option_or}
use Rattle.access.specs.Contexts.{member}
use Rattle.access.specs.Policy.{Meaning}
use Rattle.access.specs.Refusals.{first_of}
use Rattle.access.specs.declared.refusal.Refusal.{Refusal}
use Rattle.access.specs.declared.refusal.Refusal.TheVariants.{ShortMemory}
use Rattle.verdicts.specs.Runs.{Grants}
use Rattle.verdicts.specs.Activities.{Move, Property as Forbidding, integrity, confidentiality, domain, consistency, Forbids}
use Rattle.verdicts.specs.Verdicts.{NoneRealised, Guaranteed as Holds}
use Rattle.verdicts.specs.First.{fetches}
use Rattle.search.specs.declared.breadth_first.Place.{Place}
use Rattle.judge.specs.declared.step.Step.{Step}
use Rattle.judge.specs.Found.{Found}
use Rattle.judge.specs.Sought.{short}
use Rattle.access.specs.Fitness.{property_refusal}
use Rattle.access.specs.declared.property.Property.{Property}
use Rattle.access.specs.declared.property.Template.{Template}
use Rattle.access.specs.declared.property.Template.TheVariants.{Integrity, Confidentiality, Domain, Consistency}
use Rattle.judge.specs.declared.verdict.Verdict.{Verdict}
use Rattle.judge.specs.declared.verdict.Verdict.TheVariants.{Guaranteed, Broken}

-- a template with its sets
abbrev pub forbidding : Template → (ℕ → Bool) → (ℕ → Bool) → Forbidding
forbidding Integrity A B = integrity A B
forbidding Confidentiality A B = confidentiality A B
forbidding Domain A B = domain A
forbidding Consistency A B = consistency A B

-- what a property means
abbrev pub property_of : Property → Forbidding
property_of q = forbidding q.template (member q.first) (member q.second)

-- what a verdict tells of the activities that are sought, with the lent steps before and after: no legal run realises one, or the steps
-- in front show the first of the shortest
abbrev pub Tells : Meaning → Grants → (List Move → Type 0) → Bool → List Step → List Step → Verdict → Type 0
Tells m gs Sought back ss ss' Guaranteed = NoneRealised m gs Sought × (ss' ≡ ss)
Tells m gs Sought back ss ss' (Broken k) = Found m gs Sought back ss' k × (drop k ss' ≡ drop k ss)

-- the verdict on a property
abbrev pub Judged : Meaning → Grants → Forbidding → List Step → List Step → Verdict → Type 0
Judged m gs p ss ss' v = Tells m gs (Forbids m p) (fetches p) ss ss' v

-- why a property is not judged under n contexts with memory of these lengths: it is not fit, or else the memory is too short
abbrev pub judging_refusal : ℕ → Property → ℕ → ℕ → ℕ → Option Refusal
judging_refusal n q ticks places steps = option_or (property_refusal n q) (first_of ((short 2 n ticks places steps, ShortMemory) ∷ []))

-- a verdict, which is `Guaranteed` exactly where the property is; or refused, the places and the steps as before
abbrev pub Answered : Meaning → Grants → Property → List ℕ → List Place → List Place → List Step → List Step → Result Verdict Refusal → Type 0
Answered m gs q ts ps ps' ss ss' (Ok v) =
    (judging_refusal m.contexts q (length ts) (length ps) (length ss) ≡ None)
    × Judged m gs (property_of q) ss ss' v
    × ((v ≡ Guaranteed) ↔ Holds m gs (property_of q))
Answered m gs q ts ps ps' ss ss' (Err why) = (judging_refusal m.contexts q (length ts) (length ps) (length ss) ≡ Some why) × (ps' ≡ ps) × (ss' ≡ ss)
