-- What the code's grants mean.
use Rattle.std.specs.Prelude.{ℕ, suc, ◌≤◌, List, [], ◌∷◌, Some, None, Option, MatchOption}
use Rattle.access.specs.Contexts.{member}
use Rattle.access.specs.Policy.{Interaction}
use Rattle.verdicts.specs.Runs.{Grant as Granting, Grants}
use Rattle.verdicts.specs.Possible.{grant_set}
use Rattle.verdicts.specs.Verdicts.{Given}
use Rattle.judge.specs.declared.grant.Grant.{Grant}

abbrev pub meant : Grant → Granting
meant g = record { subjects = member g.subjects; targets = member g.targets; operations = g.operations.bits }

-- the grants that stand, with their numbers: the first entry is number k + 1
abbrev pub standing : List (Option Grant) → ℕ → Grants
standing [] k = []
standing (None ∷ os) k = standing os (suc k)
standing (Some g ∷ os) k = (suc k, meant g) ∷ standing os (suc k)

-- what one entry gives on a pair
abbrev pub given_by : Option Grant → ℕ → ℕ → ℕ
given_by None s t = 0
given_by (Some g) s t = grant_set (meant g) s t

-- s does operation o on t
abbrev pub doing : ℕ → ℕ → ℕ → Interaction
doing s t o = record { subject = s; target = t; operation = o }

-- no grant gives that s does o on t
abbrev pub NoneGives : Grants → ℕ → ℕ → ℕ → Type 0
NoneGives gs s t o = (k : ℕ) → Given gs k (doing s t o) → ⊥

-- grant k gives it, and none with a lower number does
abbrev pub LowestGiver : Grants → ℕ → ℕ → ℕ → ℕ → Type 0
LowestGiver gs s t o k = Given gs k (doing s t o) × ((j : ℕ) → Given gs j (doing s t o) → k ≤ j)

-- the lowest number whose grant gives it, if one does
abbrev pub Giver : Grants → ℕ → ℕ → ℕ → Option ℕ → Type 0
Giver gs s t o r = MatchOption r (NoneGives gs s t o) (LowestGiver gs s t o)
