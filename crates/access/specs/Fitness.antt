-- Which properties are fit for a number of contexts.
use Rattle.std.specs.Prelude.{ℕ, Bool, not, ◌||◌, [], ◌∷◌, Option}
use Rattle.access.specs.Contexts.{has_above, empty, meet}
use Rattle.access.specs.Refusals.{first_of}
use Rattle.access.specs.declared.context_set.ContextSet.{ContextSet}
use Rattle.access.specs.declared.refusal.Refusal.{Refusal}
use Rattle.access.specs.declared.refusal.Refusal.TheVariants.{UnfitSet, SharedContext}
use Rattle.access.specs.declared.property.Property.{Property}
use Rattle.access.specs.declared.property.Template.{Template}
use Rattle.access.specs.declared.property.Template.TheVariants.{Integrity, Confidentiality, Domain, Consistency}

-- a set has a member above n, or is empty
abbrev pub unfit : ℕ → ContextSet → Bool
unfit n set = has_above n set || empty set

-- the same of the second set of a property; that of a domain is to be empty
abbrev pub unfit_second : ℕ → Template → ContextSet → Bool
unfit_second n Integrity set = unfit n set
unfit_second n Confidentiality set = unfit n set
unfit_second n Domain set = not (empty set)
unfit_second n Consistency set = unfit n set

-- why a property is not fit for n contexts: the first of the list that applies
abbrev pub property_refusal : ℕ → Property → Option Refusal
property_refusal n p =
    first_of (
    (unfit n p.first || unfit_second n p.template p.second, UnfitSet)
    ∷ (meet p.first p.second, SharedContext)
    ∷ [])
