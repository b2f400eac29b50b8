-- What judging a property by its number is replied.
use Rattle.std.proofs.Common.{◌≡◌, ℕ, ◌≤◌, min, Bool, true, false, not, ◌↔◌, List, [], ◌∷◌, ◌++◌, length, take, is_some, Some, None, Ok, Err, Option, Result, refl, sym, ◌∙◌, subst, arith}
use Rattle.std.proofs.lemmas.Bool.Decides.{nat_tests}
use Rattle.std.proofs.lemmas.List.{take-append-le}
use Rattle.access.specs.Contexts.{inside}
use Rattle.access.specs.Refusals.{first_of, refusal_number}
use Rattle.access.specs.declared.refusal.Refusal.{Refusal}
use Rattle.access.specs.declared.refusal.Refusal.TheVariants.{NumberOutside, StandsNot, ShortMemory}
use Rattle.verdicts.specs.Verdicts.{Guaranteed as Holds}
use Rattle.search.specs.declared.breadth_first.Place.{Place}
use Rattle.judge.specs.declared.step.Step.{Step}
use Rattle.access.specs.declared.property.Property.{Property}
use Rattle.judge.specs.Judged.{property_of}
use Rattle.judge.specs.declared.verdict.Verdict.{Verdict}
use Rattle.judge.specs.declared.verdict.Verdict.TheVariants.{Guaranteed, Broken}
use Rattle.judge.specs.Sought.{short}
use Rattle.sheet.specs.Book.{Book, refusal}
use Rattle.sheet.specs.Judging.{standing_grants, VerdictOn, VerdictOnEntry, Judges}
use Rattle.sheet.specs.declared.request.Request.TheVariants.{Judge}
use Rattle.replay.specs.Calls.{FitsSteps, judgingly}
use Rattle.replay.specs.Replies.{refused, guaranteed, Shows, Verdict as VerdictIs, Right, RightWhere}

-- memory beyond what 256 contexts take makes no difference
cut : (n ticks places steps : ℕ) → n ≤ 256 → short 2 n (min ticks 512) (min places 512) (min steps 256) ≡ short 2 n ticks places steps
cut n ticks places steps few = grind (arith, nat_tests)

-- a judging that is accepted has steps for all contexts
enough : (n ticks places steps : ℕ) → short 2 n ticks places steps ≡ false → n ≤ steps
enough n ticks places steps e = grind (arith, nat_tests)

not_short : (r s m : Bool) → first_of ((not r, NumberOutside) ∷ (not s, StandsNot) ∷ (m, ShortMemory) ∷ []) ≡ None → m ≡ false
not_short true true false e = refl
not_short true true true e = absurd (grind arith)
not_short true false m e = absurd (grind arith)
not_short false s m e = absurd (grind arith)

module _ (b : Book) (ss ss' rest : List Step) (room : b.policy.contexts ≤ length ss') where
  -- a verdict on the property that stands
  verdict : (p : Property) (v : Verdict) → VerdictOn b p ss ss' v → Shows b p (judgingly (Ok v) (ss' ++ rest)) × ((judgingly (Ok v) (ss' ++ rest) ≡ guaranteed) ↔ Holds b.policy (standing_grants b) (property_of p))
  verdict p Guaranteed (told, same) = (told.0, ((λ e. told.0), λ h. refl))
  verdict p (Broken n) (told, same) =
      let front : take n (ss' ++ rest) ≡ take n ss' = take-append-le n ss' rest (omega (arith, told.0.few)) in
      (rw front told.0.first, ((λ e. absurd (grind arith)), λ h. let e = same.1 h in absurd (grind arith)))

  on_entry : (o : Option Property) (v : Verdict) → VerdictOnEntry b o ss ss' v → VerdictIs b o (judgingly (Ok v) (ss' ++ rest))
  on_entry (Some p) v told = verdict p v told
  on_entry None v told = told

module _ (b : Book) (k ticks places steps : ℕ) (ts : List ℕ) (ps ps' : List Place) (ss ss' rest : List Step) where
  pub judged : b.policy.contexts ≤ 256 → length ts ≡ min ticks 512 → length ps ≡ min places 512 → length ss ≡ min steps 256 → length ss' ≡ length ss
      → (r : Result Verdict Refusal) → Judges b k ts ps ps' ss ss' r → Right b (Judge k ticks places steps) (judgingly r (ss' ++ rest))
  judged few t p s s' r j = go r j
    where
      n : ℕ
      n = b.policy.contexts

      same : short 2 n (length ts) (length ps) (length ss) ≡ short 2 n ticks places steps
      same = rw (t, p, s) (cut n ticks places steps few)

      alike : refusal b (Judge k (length ts) (length ps) (length ss)) ≡ refusal b (Judge k ticks places steps)
      alike = rw same refl

      go : (r : Result Verdict Refusal) → Judges b k ts ps ps' ss ss' r → Right b (Judge k ticks places steps) (judgingly r (ss' ++ rest))
      go (Ok v) (e, told) =
          let fit = enough n (length ts) (length ps) (length ss) (not_short (inside 64 k) (is_some (b.properties k)) (short 2 n (length ts) (length ps) (length ss)) e) in
          subst (λ (o : Option Refusal). RightWhere o b (Judge k ticks places steps) (judgingly (Ok v) (ss' ++ rest))) (sym e ∙ alike) (on_entry b ss ss' rest (omega arith) (b.properties k) v told)
      go (Err why) (e, _, _) = subst (λ (o : Option Refusal). RightWhere o b (Judge k ticks places steps) (refused (refusal_number why))) (sym e ∙ alike) refl

-- the steps of a verdict fit an answer
pub fits_steps : (b : Book) (k : ℕ) (ts : List ℕ) (ps ps' : List Place) (ss ss' : List Step) → b.policy.contexts ≤ 256 → (r : Result Verdict Refusal) → Judges b k ts ps ps' ss ss' r → FitsSteps r
fits_steps b k ts ps ps' ss ss' few (Ok Guaranteed) j = tt
fits_steps b k ts ps ps' ss ss' few (Err why) j = tt
fits_steps b k ts ps ps' ss ss' few (Ok (Broken n)) j = on (b.properties k) j.1
  where
    on : (o : Option Property) → VerdictOnEntry b o ss ss' (Broken n) → n ≤ 256
    on (Some p) told = omega (arith, told.0.0.few, few)
    on None told = absurd told
