-- Why a text has one report: of each property one verdict is right, and one list of steps shows it.
use Rattle.std.proofs.Common.{◌≡◌, ℕ, ◌<◌, ◌≤◌, Bool, true, false, List, [], ◌∷◌, ◌++◌, map, take, is_some, Some, None, Ok, Err, Option, Result, sym, refl, ap, ap₂, ◌∙◌, subst, ⊎_elim, arith}
use Rattle.std.proofs.lemmas.Bool.{cases_lt}
use Rattle.access.specs.Operations.{number_of}
use Rattle.access.specs.declared.operation.Operation.{Operation}
use Rattle.access.specs.declared.operation.Operation.TheVariants.{Read, Write, Append, Update, Execute, Become, Stat, Lock, Unlock, Signal, Send, Receive}
use Rattle.std.specs.Prelude.{slice_index_or, decimal}
use Rattle.verdicts.specs.Verdicts.{Step as Stepping}
use Rattle.verdicts.proofs.First.{one_first}
use Rattle.judge.specs.Moved.{stepped}
use Rattle.judge.specs.declared.step.Step.{Step}
use Rattle.access.specs.declared.property.Property.{Property}
use Rattle.judge.specs.declared.verdict.Verdict.{Verdict}
use Rattle.judge.specs.declared.verdict.Verdict.TheVariants.{Guaranteed, Broken}
use Rattle.sheet.specs.Book.{Book}
use Rattle.sheet.specs.Judging.{standing_grants, VerdictOn, VerdictOnEntry}
use Rattle.report.specs.Parts.{broken, said}
use Rattle.report.specs.Reporting.{NoneAbove, IsNext}
use Rattle.policy_text.specs.Reading.{Reading}
use Rattle.policy_text.specs.Texts.{text_read}
use Rattle.policy_text.specs.declared.fault.Fault.{Fault}
use Rattle.report.specs.Output.{IsPart, ReportAbove, over, next, Prints}
use Rattle.report.specs.OneReport.{OneReport}

-- ---- a step is told by what it means

by_number : ℕ → Operation
by_number n = slice_index_or (Read ∷ Write ∷ Append ∷ Update ∷ Execute ∷ Become ∷ Stat ∷ Lock ∷ Unlock ∷ Signal ∷ Send ∷ Receive ∷ []) n Read

by_its_number : (o : Operation) → by_number (number_of o) ≡ o
unfolding by_number
by_its_number Read = refl
by_its_number Write = refl
by_its_number Append = refl
by_its_number Update = refl
by_its_number Execute = refl
by_its_number Become = refl
by_its_number Stat = refl
by_its_number Lock = refl
by_its_number Unlock = refl
by_its_number Signal = refl
by_its_number Send = refl
by_its_number Receive = refl

step_of : Stepping → Step
step_of s = record { subject = s.interaction.subject; target = s.interaction.target; operation = by_number s.interaction.operation; origin = s.origin }

step_back : (s : Step) → step_of (stepped s) ≡ s
unfolding step_of
step_back s = ap (λ (o : Operation). let r : Step = record { subject = s.subject; target = s.target; operation = o; origin = s.origin } in r) (by_its_number s.operation)

steps_back : (ss : List Step) → map step_of (map stepped ss) ≡ ss
steps_back [] = refl
steps_back (s ∷ ss) = ap₂ (λ x xs. x ∷ xs) (step_back s) (steps_back ss)

told_by_meaning : (ss rr : List Step) → map stepped ss ≡ map stepped rr → ss ≡ rr
told_by_meaning ss rr e = sym (steps_back ss) ∙ ap (map step_of) e ∙ steps_back rr

-- ---- of a property one part is right

apart : {X : Type 0} (k : ℕ) → ◌≡◌ {A = Verdict} (Broken k) Guaranteed → X
apart k e = let z : ◌≡◌ {A = ℕ} 0 1 = cc in absurd (omega arith)

one_said : (b : Book) (p : Property) (names : List (List ℕ)) (ss ss' rr rr' : List Step) (v w : Verdict) → VerdictOn b p ss ss' v → VerdictOn b p rr rr' w → said v ss' names ≡ said w rr' names
one_said b p names ss ss' rr rr' Guaranteed Guaranteed h g = refl
one_said b p names ss ss' rr rr' Guaranteed (Broken k) h g = apart k (g.1.1 (h.1.0 refl))
one_said b p names ss ss' rr rr' (Broken j) Guaranteed h g = apart j (h.1.1 (g.1.0 refl))
one_said b p names ss ss' rr rr' (Broken j) (Broken k) h g =
    ap (λ (xs : List Step). broken xs names) (told_by_meaning (take j ss') (take k rr') (one_first b.policy (standing_grants b) h.0.0.first g.0.0.first))

one_entry : (b : Book) (o : Option Property) (names : List (List ℕ)) (ss ss' rr rr' : List Step) (v w : Verdict) → VerdictOnEntry b o ss ss' v → VerdictOnEntry b o rr rr' w → said v ss' names ≡ said w rr' names
one_entry b None names ss ss' rr rr' v w h g = absurd h
one_entry b (Some p) names ss ss' rr rr' v w h g = one_said b p names ss ss' rr rr' v w h g

one_part : (b : Book) (names : List (List ℕ)) (k : ℕ) (xs ys : List ℕ) → IsPart b names k xs → IsPart b names k ys → xs ≡ ys
one_part b names k xs ys x y =
    x.says ∙ ap (λ zs. decimal k ++ zs) (one_entry b (b.properties k) names x.lent x.steps y.lent y.steps x.verdict y.verdict x.right y.right) ∙ sym y.says

-- ---- one report

none_some : {X : Type 0} (o : Option Property) → o ≡ None → is_some o ≡ true → X
none_some None e f = let z : ◌≡◌ {A = Bool} false true = f in let y : ◌≡◌ {A = ℕ} 0 1 = cc in absurd (omega arith)
none_some (Some p) e f = let y : ◌≡◌ {A = ℕ} 0 1 = cc in absurd (omega arith)

no_next : {X : Type 0} (b : Book) (after k : ℕ) → NoneAbove b after → IsNext b after k → X
no_next b after k none n = none_some (b.properties k) (none k n.above n.ranged) n.stands

one_next : (b : Book) (after j k : ℕ) → IsNext b after j → IsNext b after k → j ≤ k
one_next b after j k x y =
    ⊎_elim
    (λ (h : k < j). none_some (b.properties k) (x.first k y.above h) y.stands)
    (λ (h : j ≤ k). h)
    (cases_lt k j)

one_above : (b : Book) (names : List (List ℕ)) (after : ℕ) (xs ys : List ℕ) → ReportAbove b names after xs → ReportAbove b names after ys → xs ≡ ys
one_above b names after xs ys (over n) (over m) = refl
one_above b names after xs ys (over n) (next k i p r) = no_next b after k n i
one_above b names after xs ys (next k i p r) (over n) = no_next b after k n i
one_above b names after xs ys (next {bytes = us} {rest = vs} j i p r) (next {bytes = ws} {rest = zs} k i' p' r') =
    let e : k ≡ j = omega (arith, one_next b after j k i i', one_next b after k j i' i) in
    ap₂ ◌++◌ (one_part b names j us ws p (subst (λ n. IsPart b names n ws) e p')) (one_above b names j vs zs r (subst (λ n. ReportAbove b names n zs) e r'))

one_print : (read : Result Reading Fault) (xs ys : List ℕ) → Prints read xs → Prints read ys → xs ≡ ys
one_print (Err fault) xs ys x y = x ∙ sym y
one_print (Ok p) xs ys x y = one_above _ _ 0 xs ys x y

pub one_report : OneReport
one_report text xs ys x y = one_print (text_read text) xs ys x y
