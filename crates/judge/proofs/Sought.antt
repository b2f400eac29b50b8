-- What a search over the graph of an activity says of activities.
use Rattle.std.proofs.Common.{◌≡◌, ℕ, ◌<◌, ◌≤◌, Bool, T, List, Ok, Option, Result, length, drop, sym, subst, arith}
use Rattle.std.proofs.lemmas.Bool.{and_parts}
use Rattle.access.specs.Contexts.{member}
use Rattle.access.specs.declared.context_set.ContextSet.{ContextSet}
use Rattle.access.specs.Policy.{Meaning}
use Rattle.access.specs.Sound.{Sound}
use Rattle.verdicts.specs.Runs.{Grants}
use Rattle.verdicts.specs.Activities.{Move}
use Rattle.verdicts.specs.Searches.{Search}
use Rattle.search.specs.Problem.{Problem}
use Rattle.search.specs.Queue.{at, Found as FoundPlace, Answered, Fits, Outcome, Kept}
use Rattle.search.specs.declared.breadth_first.TooShort.{TooShort}
use Rattle.search.specs.declared.breadth_first.Place.{Place}
use Rattle.judge.specs.Regimes.{meaning_of, grants_of}
use Rattle.judge.specs.declared.moves.Moves.{Moves}
use Rattle.access.specs.declared.policy.Policy.{Ghosts as Policy}
use Rattle.judge.specs.declared.activity.Activity.{Ghosts as Activity}
use Rattle.judge.specs.declared.step.Step.{Step}
use Rattle.judge.specs.Kinds.{KindLaws}
use Rattle.judge.specs.Traced.{Traced, SameFrom}
use Rattle.judge.specs.Found.{Leads, Found, Shortest}
use Rattle.judge.proofs.Reached.{path_shortest}
use Rattle.judge.proofs.Tracing.{traced_found}
use Rattle.judge.specs.Plan.{among, plan, line}
use Rattle.judge.specs.Charts.{problem_of}
use Rattle.judge.specs.declared.chart.Chart.{Chart}
use Rattle.judge.proofs.Lines.{inside as inside_line, joins, begins, ends}
use Rattle.judge.proofs.Charted.{few_edges}
use Rattle.judge.proofs.Trailed.{least_trailed, first_found}
use Rattle.judge.proofs.Rests.{same_rest}

-- what a search over a chart answered, if it was not refused
pub told : {X P : Type 0} {A : Activity X} {B : Policy P} (chart : Chart X P A B) {moves : Moves P B} {from to : ContextSet} → chart.moves.now ≡ moves → chart.from ≡ from → chart.to ≡ to
    → {ts : List ℕ} {ps : List Place} (ps' : List Place) (found : Option ℕ) {result : Result (Option ℕ) TooShort} → result ≡ Ok found → Answered (problem_of chart) ts ps ps' result → Kept (problem_of chart) ps ps'
    → let p = plan A.kind (meaning_of B.meaning moves.regime) (grants_of moves.regime) (member from) (member to) in Fits p ts ps × Outcome p ps' found × Kept p ps ps'
told {A = A} {B = B} chart {moves} {from} {to} is starts leads {ts} {ps} ps' found e a k =
    let p : problem_of chart ≡ plan A.kind (meaning_of B.meaning moves.regime) (grants_of moves.regime) (member from) (member to) = cc in
    let b = subst (Answered (problem_of chart) ts ps ps') e a in
    subst (λ x. Fits x ts ps × Outcome x ps' found × Kept x ps ps') p (b.0, b.1, k)

module _ (m : Meaning) (gs : Grants) (l : Sound m) {kind : Search} {back : Bool} {activities : ℕ → ℕ → List Move → Type 0} (laws : KindLaws kind back activities) (A B : ℕ → Bool) where
  abbrev n : ℕ
  n = m.contexts

  abbrev p : Problem
  p = plan kind m gs A B

  pub found_sought : (ps : List Place) (last : ℕ) (f : FoundPlace (plan kind m gs A B) ps last) (ss ss' : List Step) → m.contexts ≤ length ss → length ss' ≡ length ss
      → Traced kind m gs back (line ps last) (at ps last).depth ss' → SameFrom (at ps last).depth ss ss'
      → Found m gs (Leads activities (among m.contexts A) B) back ss' (at ps last).depth × (drop (at ps last).depth ss' ≡ drop (at ps last).depth ss)
  found_sought ps last f ss ss' fits sized t same =
      let k = (at ps last).depth in
      let few : k < n = few_edges kind m gs A B l ps last f in (
        traced_found m gs laws (line ps last) k ss' t (omega arith) l (among n A) B
            (subst T (sym (and_parts _ _ (begins p ps last f.sound)).1) tt)
            (subst T (sym (ends p ps last f.sound f.target)) tt)
            (least_trailed m gs l laws A B k f.least)
            (first_found m gs l laws A B ps last f ss' t),
        same_rest k ss ss' sized same,
      )

  pub shortest_sought : (ps : List Place) (last : ℕ) → FoundPlace (plan kind m gs A B) ps last → Shortest m gs (Leads activities (among m.contexts A) B) (at ps last).depth
  shortest_sought ps last f =
      let k = (at ps last).depth in
      path_shortest m gs l laws (among n A) B k (line ps last) (inside_line p ps last f.sound) (joins p ps last f.sound)
      (subst T (sym (and_parts _ _ (begins p ps last f.sound)).1) tt)
      (subst T (sym (ends p ps last f.sound f.target)) tt)
      (least_trailed m gs l laws A B k f.least)
