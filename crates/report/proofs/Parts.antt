-- A property that stands is reported, and parts make the report.
use Rattle.std.proofs.Common.{◌≡◌, ℕ, ◌≤◌, true, false, List, [], ◌++◌, length, take, drop, is_some, None, Ok, Err, IsOk, OnOk, Option, Result, refl, sym, ap, ◌∙◌, subst, arith}
use Rattle.std.proofs.lemmas.Bool.Decides.{nat_tests}
use Rattle.std.proofs.lemmas.List.{length-append, append-nil, append_assoc}
use Rattle.std.proofs.Math.Seq.{take-append_seam}
use Rattle.std.specs.Io.KnownBytes.{Appends}
use Rattle.std.proofs.KnownBytes.{Appends-nil, Appends-trans}
use Rattle.access.specs.Contexts.{inside}
use Rattle.access.specs.declared.refusal.Refusal.{Refusal}
use Rattle.search.specs.declared.breadth_first.Place.{Place}
use Rattle.judge.specs.declared.step.Step.{Step}
use Rattle.judge.specs.Sought.{short}
use Rattle.sheet.specs.Book.{Book}
use Rattle.report.specs.Parts.{part}
use Rattle.report.specs.Reporting.{reporting_refusal, Reports, NoneAbove, IsNext}
use Rattle.report.specs.Output.{IsPart, ReportAbove, over, next, Written}
use Rattle.report.specs.Lent.{Lent}

module _ (b : Book) (k : ℕ) (names : List (List ℕ)) (ticks : ℕ) (ps ps' : List Place) (ss ss' : List Step) (ms ms' : List ℕ)
    (few : b.policy.contexts ≤ 256) (lent : Lent ticks (length ps) (length ss) (length ms)) (ranged : inside 64 k ≡ true) (stands : is_some (b.properties k) ≡ true) where
  -- nothing stops the report of a property that stands
  not_refused : reporting_refusal b k ticks (length ps) (length ss) (length ms) ≡ None
  not_refused =
      let t = lent.ticks_fit in let p = lent.places_fit in let s = lent.steps_fit in let m = lent.bytes_fit in
      let enough : short 2 b.policy.contexts ticks (length ps) (length ss) ≡ false = grind (arith, nat_tests) in
      rw (ranged, stands, enough) (grind (arith, nat_tests))

  pub is_reported : (r : Result ℕ Refusal) → Reports b k names ticks ps ps' ss ss' ms ms' r → IsOk r
  is_reported (Ok n) h = refl
  is_reported (Err why) h = let e = sym not_refused ∙ h.0 in absurd (grind arith)

  -- its part stands in front of the memory
  pub is_part : (n : ℕ) → Reports b k names ticks ps ps' ss ss' ms ms' (Ok n) → (n ≤ length ms') × IsPart b names k (take n ms')
  is_part n h =
      let told = h.1 in
      let bytes = part k told.verdict ss' names in
      let w : ms' ≡ bytes ++ drop n ms = told.in_front.written in
      let count : n ≡ length bytes = told.in_front.all in (
        let l = ap length w ∙ length-append bytes (drop n ms) in omega arith,
        record { verdict = told.verdict; lent = ss; steps = ss'; right = told.right; says = rw (w, count) (take-append_seam bytes _) },
      )

-- what follows of a success
pub on_ok : {T E A B : Type 0} (r : Result T E) → (A → B) → OnOk r A → OnOk r B
on_ok (Ok x) f a = f a
on_ok (Err e) f a = a

-- a property that is next is in range and stands
pub next_ranged : (b : Book) (after k : ℕ) → IsNext b after k → inside 64 k ≡ true
next_ranged b after k n = let low = n.above in let high = n.ranged in grind (arith, nat_tests)

-- the parts up to a number are written
pub record Going (b : Book) (names : List (List ℕ)) (old new : Option (List ℕ)) (after : ℕ) : Type 0 where
  pub bytes : List ℕ
  pub appended : Appends old new bytes
  pub leads : (rest : List ℕ) → ReportAbove b names after rest → ReportAbove b names 0 (bytes ++ rest)

module _ (b : Book) (names : List (List ℕ)) (old : Option (List ℕ)) where
  pub none_yet : Going b names old old 0
  none_yet = record { bytes = []; appended = Appends-nil old; leads = λ rest report. report }

  pub one_more : (mid new : Option (List ℕ)) (after k : ℕ) → Going b names old mid after → IsNext b after k → (bytes : List ℕ) → Appends mid new bytes → IsPart b names k bytes → Going b names old new k
  one_more mid new after k going is_next bytes appended part = record {
    bytes = going.bytes ++ bytes;
    appended = Appends-trans old mid new going.bytes bytes going.appended appended;
    leads = λ rest report. subst (ReportAbove b names 0) (sym (append_assoc going.bytes bytes rest)) (going.leads (bytes ++ rest) (next k is_next part report));
  }

  pub all_written : (new : Option (List ℕ)) (after : ℕ) → Going b names old new after → NoneAbove b after → Written b names old new
  all_written new after going none = (going.bytes, going.appended, subst (ReportAbove b names 0) (append-nil going.bytes) (going.leads [] (over none)))
