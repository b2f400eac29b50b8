-- Moves stay within the contexts.
use Rattle.std.proofs.Common.{◌≡◌, ℕ, ◌<◌, ◌≤◌, Bool, T, leb, ◌⊎◌, subst, inl, inr, ⊎_elim, arith}
use lib.Bits.{bit_and, bit_or, and_le_l}
use Rattle.access.specs.Operations.{has}
use Rattle.access.specs.Contexts.{inside, both_inside}
use Rattle.access.specs.Policy.{Meaning, Interaction}
use Rattle.access.specs.Sound.{Sound}
use Rattle.verdicts.specs.Runs.{Grants}
use Rattle.verdicts.specs.Activities.{Move, transition, transfer, contact, Does}
use Rattle.verdicts.specs.Possible.{granted, possible, Can, CanMake}
use Rattle.std.proofs.lemmas.Bool.{and_parts, cases_Bool, leb-true}
use Rattle.access.proofs.Bits.{has_none, has_below}
use Rattle.verdicts.proofs.Moves.{makeable_done}

-- nothing is permitted outside the contexts
abbrev pub Inside : Meaning → Type 0
Inside m = (s t : ℕ) → (m.permitted s t ≡ 0) ⊎ ((s ≤ m.contexts) × (t ≤ m.contexts))

-- as in every sound meaning
pub sound_inside : (m : Meaning) → Sound m → Inside m
sound_inside m l s t =
    let n = m.contexts in
    ⊎_elim
    (λ h. let p = and_parts (inside n s) (inside n t) h in inr (leb-true s n (and_parts (leb 1 s) _ p.0).1, leb-true t n (and_parts (leb 1 t) _ p.1).1))
    (λ h. inl (l.permitted_inside s t h))
    (cases_Bool (both_inside n s t))

-- and only the twelve operations are ever possible
pub sound_twelve : (m : Meaning) (gs : Grants) → Sound m → (s t o : ℕ) → T (has (possible m gs s t) o) → o < 12
sound_twelve m gs l s t o h = has_below (possible m gs s t) 12 o (omega (arith, and_le_l (m.permitted s t) (bit_or (m.written s t) (granted gs s t)), l.permitted_known s t)) h

-- both ends of a move are at most n
abbrev pub Ends : ℕ → Move → Type 0
Ends n (transition c d) = (c ≤ n) × (d ≤ n)
Ends n (transfer g k) = (g ≤ n) × (k ≤ n)
Ends n (contact s t) = (s ≤ n) × (t ≤ n)

module _ (m : Meaning) (gs : Grants) (stays : Inside m) where
  abbrev n : ℕ
  n = m.contexts

  can_inside : (i : Interaction) → Can m gs i → (i.subject ≤ n) × (i.target ≤ n)
  can_inside i h =
      ⊎_elim
      (λ e. absurd (subst T (has_none i.operation) (subst (λ x. T (has (bit_and x (bit_or (m.written i.subject i.target) (granted gs i.subject i.target))) i.operation)) e h)))
      (λ p. p) (stays i.subject i.target)

  does_ends : {s t : ℕ} {test : ℕ → Bool} {i : Interaction} → Does s t test i → Can m gs i → (s ≤ n) × (t ≤ n)
  does_ends {i = i} d c = let p = can_inside i c in omega (arith, d.by, d.on)

  pub ends : (v : Move) → CanMake m gs v → Ends n v
  ends (transition c d) h = let r = makeable_done m gs (transition c d) h in does_ends r.makes r.can
  ends (transfer g k) h =
      let r = makeable_done m gs (transfer g k) h in
      ⊎_elim (λ w. does_ends w r.can) (λ w. let p = does_ends w r.can in (p.1, p.0)) r.makes
  ends (contact s t) h = let r = makeable_done m gs (contact s t) h in does_ends r.makes r.can
