-- Where two sets share a context, nothing has to be done to get from one to the other.
use Rattle.std.proofs.Common.{◌≡◌, ℕ, zero, suc, Bool, true, false, ◌&&◌, T, List, [], ◌++◌, sym, refl, subst, ⊎_elim, arith}
use Rattle.access.specs.Contexts.{member, some_to, meet}
use Rattle.access.specs.declared.context_set.ContextSet.{ContextSet}
use Rattle.access.specs.Policy.{Meaning}
use Rattle.access.proofs.Tests.{both, both_parts, either_part, T_true}
use Rattle.access.proofs.ContextLaws.{member_inside}
use Rattle.verdicts.specs.Runs.{Grants, stop}
use Rattle.verdicts.specs.Activities.{Move, same}
use Rattle.verdicts.specs.Searches.{Search}
use Rattle.verdicts.specs.Verdicts.{ShortestShown, none}
use Rattle.judge.specs.Found.{Leads}
use Rattle.judge.specs.Kinds.{here, turned, KindLaws}
use Rattle.judge.proofs.Sets.{some_from}

some_found : (n : ℕ) (p : ℕ → Bool) → T (some_to n p) → (d : ℕ) × T (p d)
unfolding some_to
some_found zero p t = elim t [ ]
some_found (suc n) p t = ⊎_elim (λ h. (suc n, h)) (λ h. some_found n p h) (either_part (p (suc n)) (some_to n p) t)

pub shared : (a b : ContextSet) → true ≡ meet a b → (c : ℕ) × T (member a c) × T (member b c)
shared a b e = let r = some_found 256 (λ c. member a c && member b c) (subst T e tt) in let h = both_parts (member a r.0) (member b r.0) r.1 in (r.0, h.0, h.1)

pub none_shared : (a b : ContextSet) → false ≡ meet a b → (c : ℕ) → T (member a c) → T (member b c) → ⊥
none_shared a b e c h k =
    let i = member_inside a c (T_true (member a c) h) in
    subst T (sym e) (some_from 256 (λ c. member a c && member b c) c i.0 i.1 (both (member a c) (member b c) h k))

nothing : (back : Bool) → [] ≡ [] ++ turned back []
nothing true = refl
nothing false = refl

-- an activity of no moves, which is shown by no step
pub shared_found : (m : Meaning) (gs : Grants) {kind : Search} {back : Bool} {activities : ℕ → ℕ → List Move → Type 0} → KindLaws kind back activities → (A B : ℕ → Bool) (c : ℕ) → T (A c) → T (B c) → ShortestShown m gs (Leads activities A B) []
shared_found m gs {back = back} laws A B c h k =
    record {
      moves = [];
      sought = record { from = c; to = c; from_in = h; to_in = k; holds = (laws.ways c c []).1 (record { via = c; front = []; rest = []; early = here; late = same; order = nothing back }) };
      shown = none;
      legal = stop;
      shortest = λ ms f r. omega arith;
    }
