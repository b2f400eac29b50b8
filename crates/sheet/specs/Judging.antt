-- What judging a property that stands on a sheet answers.
use Rattle.std.specs.Prelude.{◌≡◌, ℕ, ◌↔◌, List, length, Some, None, Ok, Err, Option, Result}
use Rattle.access.specs.declared.refusal.Refusal.{Refusal}
use Rattle.verdicts.specs.Runs.{Grants}
use Rattle.verdicts.specs.Verdicts.{Guaranteed as Holds}
use Rattle.search.specs.declared.breadth_first.Place.{Place}
use Rattle.judge.specs.Grants.{standing}
use Rattle.judge.specs.declared.step.Step.{Step}
use Rattle.access.specs.Fitness.{property_refusal}
use Rattle.access.specs.declared.property.Property.{Property}
use Rattle.judge.specs.Judged.{property_of, Judged}
use Rattle.judge.specs.declared.verdict.Verdict.{Verdict}
use Rattle.judge.specs.declared.verdict.Verdict.TheVariants.{Guaranteed}
use Rattle.sheet.specs.Entries.{Entries, in_order}
use Rattle.sheet.specs.Book.{Book, refusal}
use Rattle.sheet.specs.declared.request.Request.TheVariants.{Judge}

-- each property that stands is fit
abbrev pub AllFit : ℕ → Entries Property → Type 0
AllFit n f = (k : ℕ) (p : Property) → f k ≡ Some p → property_refusal n p ≡ None

-- the grants that stand in a book, with their numbers
abbrev pub standing_grants : Book → Grants
standing_grants b = standing (in_order b.grants 0 32) 0

-- a verdict on a property, with the lent steps before and after; it is `Guaranteed` exactly where the property is
abbrev pub VerdictOn : Book → Property → List Step → List Step → Verdict → Type 0
VerdictOn b p ss ss' v =
    Judged b.policy (standing_grants b) (property_of p) ss ss' v
    × ((v ≡ Guaranteed) ↔ Holds b.policy (standing_grants b) (property_of p))

-- the same on the property that stands
abbrev pub VerdictOnEntry : Book → Option Property → List Step → List Step → Verdict → Type 0
VerdictOnEntry b None ss ss' v = ⊥
VerdictOnEntry b (Some p) ss ss' v = VerdictOn b p ss ss' v

-- judging property k: refused as the book has it, the places and the steps as before; else a verdict on the property
abbrev pub Judges : Book → ℕ → List ℕ → List Place → List Place → List Step → List Step → Result Verdict Refusal → Type 0
Judges b k ts ps ps' ss ss' (Ok v) = (refusal b (Judge k (length ts) (length ps) (length ss)) ≡ None) × VerdictOnEntry b (b.properties k) ss ss' v
Judges b k ts ps ps' ss ss' (Err why) = (refusal b (Judge k (length ts) (length ps) (length ss)) ≡ Some why) × (ps' ≡ ps) × (ss' ≡ ss)
