use Rattle.std.proofs.Common.{◌≡◌, ℕ, ◌<◌, ◌≤◌, List, length, get_or, ◌∙◌, arith}
use Rattle.std.proofs.lemmas.List.{get_or_default}
use Rattle.search.specs.Queue.{blank, at}
use Rattle.search.specs.declared.breadth_first.Place.{Place}
use Rattle.search.proofs.Frontier.{used_le, lent_then}
use Rattle.search.proofs.Distance.{nowhere, found, found_next, kept, spread_none, spread_more}
use Rattle.search.proofs.Order.{foremost_start}
use Rattle.search.proofs.breadth_first.explore.Goals as goal

pub returns-then-start-clause-ended : goal.returns-then-start-clause-ended
returns-then-start-clause-ended g c = let s = c.if-start.ensures in found _ s.stepped (λ b k t w. omega arith) (foremost_start _ c.requires.empty s.stepped s.born)

pub returns-then-start-clause-kept : goal.returns-then-start-clause-kept
returns-then-start-clause-kept g c = kept _ c.if-start.ensures.stepped.grown

pub loop-head-init : goal.loop-head-init
loop-head-init g c = let s = c.if-start.ensures in (spread_none _ c.requires.empty s.stepped s.born, s.lent, s.stepped.grown.sized, kept _ s.stepped.grown, s.same)

pub returns-in_default-clause-ended : goal.returns-in_default-clause-ended
returns-in_default-clause-ended g c = nowhere _ _ _ _ _ c.loop-head.invariant.0 c.in_default.ensures

-- the place that is scanned next
here : (ps : List Place) (used head : ℕ) (from : Place) → used ≤ length ps → (head < used) × (get_or ps head from ≡ from) → at ps head ≡ from
here ps used head from m h = get_or_default ps head blank from (omega (arith, h.0)) ∙ h.1

pub returns-then-scan-clause-ended : goal.returns-then-scan-clause-ended
returns-then-scan-clause-ended g c =
    found_next _ c.loop-head.invariant.0 c.in-Some.ensures.0 (here _ _ _ _ c.loop-head.places.within c.in-Some.ensures) c.if-scan.ensures.stepped c.if-scan.ensures.born

pub returns-then-scan-clause-kept : goal.returns-then-scan-clause-kept
returns-then-scan-clause-kept g c =
    kept _ c.if-scan.ensures.stepped.grown ∙ c.loop-head.invariant.3

pub loop-head-preserved : goal.loop-head-preserved
loop-head-preserved g c =
    let s = c.if-scan.ensures in (
      spread_more _ c.loop-head.invariant.0 c.in-Some.ensures.0 (here _ _ _ _ c.loop-head.places.within c.in-Some.ensures) s.stepped s.born,
      lent_then c.loop-head.invariant.1 s.lent,
      s.stepped.grown.sized ∙ c.loop-head.invariant.2,
      kept _ s.stepped.grown ∙ c.loop-head.invariant.3,
      s.same,
    )

pub returns-clause-ended : goal.returns-clause-ended
returns-clause-ended g c = let s = c.loop-head.invariant.0 in nowhere _ _ _ _ _ s (omega (arith, used_le _ _ _ _ s.queue))
