-- What holds of the verdicts, whatever the policy and the grants.
use Rattle.std.specs.Prelude.{◌≡◌, ℕ, ◌≤◌, Bool, T, ◌⊎◌, ◌↔◌, List, length}
use Rattle.std.specs.List.{AllByRecursion}
use Rattle.access.specs.Contexts.{inside}
use Rattle.access.specs.Policy.{Meaning, Interaction}
use Rattle.access.specs.Sound.{Sound}
use Rattle.verdicts.specs.Runs.{Grants, Legal}
use Rattle.verdicts.specs.Activities.{Move, Property, integrity, confidentiality, domain, consistency}
use Rattle.verdicts.specs.Possible.{Can, CanMake}
use Rattle.verdicts.specs.Verdicts.{Realises, Guaranteed, Step, Broken}
use Rattle.verdicts.specs.First.{BrokenBy}

-- each member of a set is a context
abbrev pub AllInside : ℕ → (ℕ → Bool) → Type 0
AllInside n A = (c : ℕ) → T (A c) → T (inside n c)

-- the sets of a property are of contexts; of a domain nothing is asked, since no contact leaves the contexts
abbrev pub OfContexts : ℕ → Property → Type 0
OfContexts n (integrity A B) = AllInside n A × AllInside n B
OfContexts n (confidentiality A B) = AllInside n A × AllInside n B
OfContexts n (consistency A B) = AllInside n A × AllInside n B
OfContexts n (domain A) = Unit {0}

-- the laws of the verdicts
pub record VerdictLaws : Type 0 where
  -- a list of interactions is a legal run's exactly where each is possible
  pub legal : (m : Meaning) (gs : Grants) (is : List Interaction) → Legal m gs is ↔ AllByRecursion (Can m gs) is
  -- an activity is realised exactly where each of its moves can be made
  pub realised : (m : Meaning) (gs : Grants) (ms : List Move) → Realises m gs ms ↔ AllByRecursion (CanMake m gs) ms
  -- every property is guaranteed or broken
  pub exhaustive : (m : Meaning) (gs : Grants) → Sound m → (p : Property) → OfContexts m.contexts p → Guaranteed m gs p ⊎ ((ss : List Step) × Broken m gs p ss)
  -- and never both
  pub exclusive : (m : Meaning) (gs : Grants) (p : Property) (ss : List Step) → Broken m gs p ss → Guaranteed m gs p → ⊥
  -- the number of steps is the same
  pub number : (m : Meaning) (gs : Grants) (p : Property) (ss rr : List Step) → Broken m gs p ss → Broken m gs p rr → length ss ≡ length rr
  -- there are no more steps than contexts
  pub few : (m : Meaning) (gs : Grants) → Sound m → (p : Property) (ss : List Step) → Broken m gs p ss → length ss ≤ m.contexts
  -- the steps that are shown of a broken property are one list
  pub once : (m : Meaning) (gs : Grants) (p : Property) (ss rr : List Step) → BrokenBy m gs p ss → BrokenBy m gs p rr → ss ≡ rr
