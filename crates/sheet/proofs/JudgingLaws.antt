-- From a judging of what a sheet holds to one of the book that it shows.
use Rattle.std.proofs.Common.{◌≡◌, ℕ, Bool, true, false, cond, List, length, Some, None, Ok, Err, Option, Result, refl, ◌∙◌, subst, arith}
use Rattle.access.specs.Contexts.{inside}
use Rattle.std.specs.Option.{ok_or}
use Rattle.access.specs.declared.refusal.Refusal.{Refusal}
use Rattle.access.specs.declared.refusal.Refusal.TheVariants as why
use Rattle.search.specs.declared.breadth_first.Place.{Place}
use Rattle.judge.specs.Grants.{standing}
use Rattle.judge.specs.declared.grant.Grant.{Grant}
use Rattle.judge.specs.declared.step.Step.{Step}
use Rattle.access.specs.declared.property.Property.{Property}
use Rattle.access.specs.Fitness.{property_refusal}
use Rattle.judge.specs.Judged.{judging_refusal, Answered}
use Rattle.judge.specs.declared.verdict.Verdict.{Verdict}
use Rattle.sheet.specs.Entries.{in_order}
use Rattle.sheet.specs.Standing.{entry_at}
use Rattle.sheet.specs.Book.{Book, refusal}
use Rattle.sheet.specs.Judging.{AllFit, standing_grants, Judges}
use Rattle.sheet.specs.declared.request.Request.TheVariants.{Judge}

-- a number has an entry where it is in range and one stands
entry_parts : {E : Type 0} (r : Bool) (o : Option E) (e : E) → Ok e ≡ cond r (ok_or o why.StandsNot) (Err why.NumberOutside) → (r ≡ true) × (o ≡ Some e)
entry_parts true (Some x) e is = (refl, cc)
entry_parts true None e is = absurd (grind arith)
entry_parts false o e is = absurd (grind arith)

module _ (k : ℕ) (ts : List ℕ) (ps ps' : List Place) (ss ss' : List Step) where
  -- in a book that has property k standing, which is fit
  judges : (b : Book) (p : Property) → inside 64 k ≡ true → b.properties k ≡ Some p → property_refusal b.policy.contexts p ≡ None → (r : Result Verdict Refusal)
      → Answered b.policy (standing_grants b) p ts ps ps' ss ss' r → Judges b k ts ps ps' ss ss' r
  judges b p ranged stands fit r a = go r a
    where
      same : refusal b (Judge k (length ts) (length ps) (length ss)) ≡ judging_refusal b.policy.contexts p (length ts) (length ps) (length ss)
      same = rw (ranged, stands, fit) refl

      go : (r : Result Verdict Refusal) → Answered b.policy (standing_grants b) p ts ps ps' ss ss' r → Judges b k ts ps ps' ss ss' r
      go (Ok v) (accepted, judged, sure) = (same ∙ accepted, rw stands (judged, sure))
      go (Err why) (refused, places, steps) = (same ∙ refused, places, steps)

  -- a property found in a book whose properties are all fit
  pub judges_found : (b : Book) → AllFit b.policy.contexts b.properties → (p : Property) (gs : List (Option Grant)) → gs ≡ in_order b.grants 0 32 → Ok p ≡ entry_at 64 b.properties k
      → (r : Result Verdict Refusal) → Answered b.policy (standing gs 0) p ts ps ps' ss ss' r → Judges b k ts ps ps' ss ss' r
  judges_found b fit p gs is found r a =
      let parts = entry_parts (inside 64 k) (b.properties k) p found in
      judges b p parts.0 parts.1 (fit k p parts.1) r (subst (λ (l : List (Option Grant)). Answered b.policy (standing l 0) p ts ps ps' ss ss' r) is a)
