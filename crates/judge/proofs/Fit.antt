-- The sets of a property that is fit are of contexts.
use Rattle.std.proofs.Common.{◌≡◌, ℕ, Bool, true, false, [], ◌∷◌, Some, None, Option, refl, arith}
use Rattle.std.specs.Option.{option_or}
use Rattle.std.proofs.lemmas.Bool.{or_parts}
use Rattle.access.specs.Contexts.{member, has_above, empty, meet}
use Rattle.access.specs.Refusals.{first_of}
use Rattle.access.specs.declared.context_set.ContextSet.{ContextSet}
use Rattle.access.specs.declared.refusal.Refusal.{Refusal}
use Rattle.access.specs.declared.refusal.Refusal.TheVariants.{UnfitSet, SharedContext, ShortMemory}
use Rattle.access.proofs.ContextLaws.{none_above}
use Rattle.verdicts.specs.Laws.{AllInside, OfContexts}
use Rattle.judge.specs.Sought.{short}
use Rattle.access.specs.Fitness.{unfit, unfit_second, property_refusal}
use Rattle.access.specs.declared.property.Property.{Property}
use Rattle.access.specs.declared.property.Template.{Template}
use Rattle.access.specs.declared.property.Template.TheVariants.{Integrity, Confidentiality, Domain, Consistency}
use Rattle.judge.specs.Judged.{forbidding, property_of, judging_refusal}

-- the first of two refusals does not apply
first_not : (u s : Bool) → first_of ((u, UnfitSet) ∷ (s, SharedContext) ∷ []) ≡ None → u ≡ false
first_not false s e = refl
first_not true s e = absurd (grind arith)

pub of_contexts : (n : ℕ) (p : Property) → property_refusal n p ≡ None → OfContexts n (property_of p)
of_contexts n p e =
    let f = or_parts (unfit n p.first) (unfit_second n p.template p.second) (first_not _ (meet p.first p.second) e) in
    go p.template p.first p.second f.0 f.1
  where
    fit_set : (s : ContextSet) → unfit n s ≡ false → AllInside n (member s)
    fit_set s e = none_above n s (or_parts (has_above n s) (empty s) e).0

    go : (t : Template) (a b : ContextSet) → unfit n a ≡ false → unfit_second n t b ≡ false → OfContexts n (forbidding t (member a) (member b))
    go Integrity a b f g = (fit_set a f, fit_set b g)
    go Confidentiality a b f g = (fit_set a f, fit_set b g)
    go Domain a b f g = tt
    go Consistency a b f g = (fit_set a f, fit_set b g)

-- a property that is judged is fit
pub fit_judged : (n : ℕ) (p : Property) (ticks places steps : ℕ) → judging_refusal n p ticks places steps ≡ None → property_refusal n p ≡ None
fit_judged n p ticks places steps e = go (property_refusal n p) e
  where
    go : (o : Option Refusal) → option_or o (first_of ((short 2 n ticks places steps, ShortMemory) ∷ [])) ≡ None → o ≡ None
    go None e = refl
    go (Some why) e = e
