-- From what was sought to the verdict on a property.
use Rattle.std.proofs.Common.{◌≡◌, ℕ, ◌*◌, ◌≤◌, Bool, true, false, ◌↔◌, List, sym, refl, subst, mul-le-mul_right, arith}
use Rattle.std.proofs.lemmas.Bool.Decides.{nat_tests}
use Rattle.access.specs.Contexts.{inside}
use Rattle.access.specs.Policy.{Meaning}
use Rattle.access.proofs.Tests.{both, both_parts}
use Rattle.verdicts.specs.Runs.{Grants}
use Rattle.verdicts.specs.Activities.{Move, Push, Pull, Property as Forbidding, integrity, confidentiality, Forbids}
use Rattle.verdicts.specs.Laws.{AllInside, OfContexts}
use Rattle.verdicts.specs.Verdicts.{Guaranteed as Holds}
use Rattle.verdicts.specs.First.{fetches}
use Rattle.verdicts.proofs.Agreement.{never_both}
use Rattle.verdicts.proofs.First.{said_as}
use Rattle.search.specs.declared.breadth_first.Place.{Place}
use Rattle.judge.specs.declared.step.Step.{Step}
use Rattle.judge.specs.Found.{Leads}
use Rattle.judge.specs.Plan.{among}
use Rattle.judge.specs.Sought.{Suffices}
use Rattle.access.specs.declared.property.Template.{Template}
use Rattle.access.specs.declared.property.Template.TheVariants.{Integrity, Confidentiality}
use Rattle.judge.specs.Judged.{forbidding, Judged, Tells}
use Rattle.judge.specs.declared.verdict.Verdict.{Verdict}
use Rattle.judge.specs.declared.verdict.Verdict.TheVariants.{Guaranteed, Broken}

-- memory for two phases suffices for fewer
pub fewer : (phases n : ℕ) (ts : List ℕ) (ps : List Place) (ss : List Step) → phases ≤ 2 → Suffices 2 n ts ps ss → Suffices phases n ts ps ss
fewer phases n ts ps ss few h =
    let q : phases * n ≤ 2 * n = mul-le-mul_right n few in
    grind (arith, nat_tests)

-- two functions of a set lead on from its contexts alike
module _ (activities : ℕ → ℕ → List Move → Type 0) (n : ℕ) (A B : ℕ → Bool) where
  among_from : AllInside n A → (ms : List Move) → Leads activities A B ms → Leads activities (among n A) B ms
  among_from ins ms h = record { from = h.from; to = h.to; from_in = both (inside n h.from) (A h.from) (ins h.from h.from_in) h.from_in; to_in = h.to_in; holds = h.holds }

  among_to : (ms : List Move) → Leads activities (among n A) B ms → Leads activities A B ms
  among_to ms h = record { from = h.from; to = h.to; from_in = (both_parts (inside n h.from) (A h.from) h.from_in).1; to_in = h.to_in; holds = h.holds }

apart : (k : ℕ) → ◌≡◌ {A = Verdict} (Broken k) Guaranteed → ⊥
apart k e = let z : ◌≡◌ {A = ℕ} 0 1 = cc in omega arith

module _ (m : Meaning) (gs : Grants) (ss ss' : List Step) where
  -- what is sought is what is forbidden
  judged_by : (p : Forbidding) (Sought : List Move → Type 0) → ((ms : List Move) → Forbids m p ms → Sought ms) → ((ms : List Move) → Sought ms → Forbids m p ms) → (v : Verdict) → Tells m gs Sought (fetches p) ss ss' v → Judged m gs p ss ss' v
  judged_by p Sought to from Guaranteed h = ((λ ms f r. h.0 ms (to ms f) r), h.1)
  judged_by p Sought to from (Broken k) h = (record { first = said_as m gs to from h.0.first; count = h.0.count; few = h.0.few }, h.1)

  -- a verdict is `Guaranteed` exactly where the property is
  pub sure : (p : Forbidding) (v : Verdict) → Judged m gs p ss ss' v → (v ≡ Guaranteed) ↔ Holds m gs p
  sure p Guaranteed h = ((λ _. h.0), (λ _. refl))
  sure p (Broken k) h = ((λ e. absurd (apart k e)), (λ g. absurd (never_both m gs h.0.first.shown g)))

  module _ (A B : ℕ → Bool) (t : Template) (v : Verdict) where
    abbrev VerdictOn : Template → Type 0
    VerdictOn t = Judged m gs (forbidding t A B) ss ss' v

    pub by_push : t ≡ Integrity → OfContexts m.contexts (forbidding t A B) → Tells m gs (Leads Push (among m.contexts A) B) false ss ss' v → Judged m gs (forbidding t A B) ss ss' v
    by_push e o h =
        let ins = subst (λ t. OfContexts m.contexts (forbidding t A B)) e o in
        subst VerdictOn (sym e) (judged_by (integrity A B) (Leads Push (among m.contexts A) B) (among_from Push m.contexts A B ins.0) (among_to Push m.contexts A B) v h)

    pub by_pull : t ≡ Confidentiality → OfContexts m.contexts (forbidding t A B) → Tells m gs (Leads Pull (among m.contexts A) B) true ss ss' v → Judged m gs (forbidding t A B) ss ss' v
    by_pull e o h =
        let ins = subst (λ t. OfContexts m.contexts (forbidding t A B)) e o in
        subst VerdictOn (sym e) (judged_by (confidentiality A B) (Leads Pull (among m.contexts A) B) (among_from Pull m.contexts A B ins.0) (among_to Pull m.contexts A B) v h)
