-- From a judging and the writing of its verdict to the report of a property.
use Rattle.std.proofs.Common.{◌≡◌, ℕ, ◌≤◌, Bool, true, false, List, [], ◌∷◌, length, Some, None, Ok, Err, Option, Result, unwrap_or, refl, arith}
use Rattle.std.proofs.lemmas.Bool.Decides.{nat_tests}
use Rattle.std.specs.Option.{option_or}
use Rattle.std.specs.Result.{result_err}
use Rattle.access.specs.Refusals.{first_of}
use Rattle.access.specs.declared.refusal.Refusal.{Refusal}
use Rattle.access.specs.declared.refusal.Refusal.TheVariants as why
use Rattle.search.specs.declared.breadth_first.Place.{Place}
use Rattle.judge.specs.declared.step.Step.{Step}
use Rattle.access.specs.declared.property.Property.{Property}
use Rattle.judge.specs.declared.verdict.Verdict.{Verdict}
use Rattle.judge.specs.declared.verdict.Verdict.TheVariants.{Guaranteed, Broken}
use Rattle.sheet.specs.Book.{Book}
use Rattle.sheet.specs.Judging.{VerdictOn, VerdictOnEntry, Judges}
use Rattle.report.specs.Parts.{has_room_for, WritesPart}
use Rattle.report.specs.Reporting.{reporting_refusal, Reports}

-- the refusals of judging, by whether each applies
abbrev judging : Bool → Bool → Bool → Option Refusal
judging outside missing short = first_of ((outside, why.NumberOutside) ∷ (missing, why.StandsNot) ∷ (short, why.ShortMemory) ∷ [])

-- where there is no memory, it is the same whether the last of them applies
memory_last : (outside missing short short' : Bool) (r : Option Refusal) → judging outside missing short ≡ r
    → option_or (judging outside missing short') (Some why.ShortMemory) ≡ Some (unwrap_or r why.ShortMemory)
memory_last outside missing short short' r e = rw (← e) (grind arith)

-- judged over no places and no steps: what is then answered is what stops a report without memory
pub without_memory : (b : Book) (k : ℕ) (ts : List ℕ) (ps' : List Place) (ss' : List Step) (places steps : ℕ) (r : Result Verdict Refusal)
    → Judges b k ts [] ps' [] ss' r → reporting_refusal b k (length ts) places steps 0 ≡ Some (unwrap_or (result_err r) why.ShortMemory)
without_memory b k ts ps' ss' places steps (Ok v) j = memory_last _ _ _ _ None j.0
without_memory b k ts ps' ss' places steps (Err w) j = memory_last _ _ _ _ (Some w) j.0

-- none of them applies
none_applies : (outside missing short : Bool) → judging outside missing short ≡ None → (missing ≡ false) × (short ≡ false)
none_applies outside missing short e = (grind arith, grind arith)

module _ (b : Book) (k : ℕ) (names : List (List ℕ)) (ts : List ℕ) (ps ps' : List Place) (ss ss' : List Step) (ms ms' : List ℕ) (v : Verdict)
    (few : b.policy.contexts ≤ 256) (kept : length ss' ≡ length ss) (long : 16384 ≤ length ms) (judged : Judges b k ts ps ps' ss ss' (Ok v)) where
  -- a verdict's steps are no more than the contexts, which are no more than the steps lent
  room_on : (p : Property) → (w : Verdict) → VerdictOn b p ss ss' w → has_room_for w (length ss') ≡ true
  room_on p Guaranteed j = refl
  room_on p (Broken n) j =
      let parts = none_applies _ _ _ judged.0 in
      let enough : b.policy.contexts ≤ length ss = grind (arith, nat_tests, parts.1) in
      grind (arith, nat_tests, enough, j.0.0.few, kept, few)

  room : (o : Option Property) → VerdictOnEntry b o ss ss' v → has_room_for v (length ss') ≡ true
  room None told = absurd told
  room (Some p) told = room_on p v told

  pub reports : (r : Result ℕ Refusal) → WritesPart k v ss' names ms ms' r → Reports b k names (length ts) ps ps' ss ss' ms ms' r
  reports (Ok n) (none, written) = (rw judged.0 (grind (arith, nat_tests)), record { verdict = v; right = judged.1; in_front = written })
  reports (Err w) (some, same) = let fits = room (b.properties k) judged.1 in absurd (grind (arith, nat_tests, rw fits at some))
