-- The graph of an activity is one of contexts at phases, so a shortest walk has fewer edges than there are contexts.
use Rattle.std.proofs.Common.{◌≡◌, ℕ, ◌+◌, ◌/◌, ◌%◌, ◌<◌, Bool, true, leb, List, sym, subst, mod-lt, arith}
use Rattle.std.proofs.lemmas.Bool.{and_parts, and_from, le-leb, leb-true}
use Rattle.search.specs.Queue.{at, Found}
use Rattle.search.specs.declared.breadth_first.Place.{Place}
use Rattle.search.specs.Phased.{Phased}
use Rattle.search.proofs.Shortness.{short}
use Rattle.access.specs.Policy.{Meaning}
use Rattle.access.specs.Sound.{Sound as SoundMeaning}
use Rattle.verdicts.specs.Runs.{Grants}
use Rattle.verdicts.specs.Possible.{makeable}
use Rattle.verdicts.specs.Searches.{Search}
use Rattle.judge.specs.Plan.{plan}
use Rattle.judge.specs.Nodes.{move_of}

module _ (kind : Search) (m : Meaning) (gs : Grants) (A B : ℕ → Bool) (l : SoundMeaning m) where
  abbrev n : ℕ
  n = m.contexts

  phased : Phased (plan kind m gs A B) n
  phased =
      record {
        context = λ v. v % n;
        phase = λ v. v / n;
        few = λ v h. mod-lt v l.a_context;
        forward = λ u v _ _ e. leb-true (u / n) (v / n) (and_parts _ _ e).0;
        edges = λ u v w _ _ _ c h e.
            let r = and_parts (leb (v / n) (w / n)) (makeable m gs (move_of kind n v w)) e in
            and_from (leb (u / n) (w / n)) (makeable m gs (move_of kind n u w)) (le-leb (u / n) (w / n) (omega (arith, leb-true (v / n) (w / n) r.0)))
            (subst (λ x. makeable m gs (kind.move (w / n) (x + 1) (w % n + 1)) ≡ true) (sym c) r.1);
        targets = λ u v _ _ c h e. subst (λ x. B (x + 1) ≡ true) (sym c) e;
      }

  pub few_edges : (ps : List Place) (last : ℕ) → Found (plan kind m gs A B) ps last → (at ps last).depth < n
  few_edges ps last f = short (plan kind m gs A B) n phased (at ps last).node (at ps last).depth f.target f.way f.least
