-- Moves that can be made join contexts, and no activity needs more moves than there are contexts.
use Rattle.std.proofs.Common.{◌≡◌, ℕ, suc, ◌≤◌, Bool, true, T, leb, ◌⊎◌, List, length, refl, subst, subst₂, inl, inr, ⊎_elim, arith, le→leb, leb→le}
use lib.Bits.{bit_and, bit_or}
use Rattle.std.proofs.lemmas.Bool.{cases_Bool}
use Rattle.access.specs.Operations.{has}
use Rattle.access.specs.Contexts.{both_inside}
use Rattle.access.specs.Policy.{Meaning, Interaction}
use Rattle.access.specs.Sound.{Sound}
use Rattle.access.proofs.Bits.{has_none}
use Rattle.access.proofs.Settings.{pair_parts}
use Rattle.verdicts.specs.Runs.{Grants}
use Rattle.verdicts.specs.Activities.{Move, transition, transfer, Does}
use Rattle.verdicts.specs.Possible.{granted, Can, CanMake, makeable}
use Rattle.verdicts.specs.Searches.{Search}
use Rattle.verdicts.specs.Verdicts.{Realises}
use Rattle.verdicts.proofs.Moves.{makeable_done, realised}
use Rattle.verdicts.proofs.Walks.{Walk, stop, go, size_most, shorten}
use Rattle.judge.specs.Kinds.{Joins, KindLaws}
use Rattle.judge.proofs.GoingWalks.{going_walk, walk_going}

-- two contexts
abbrev pub Two : ℕ → ℕ → ℕ → Type 0
Two n b c = (1 ≤ b) × (b ≤ n) × (1 ≤ c) × (c ≤ n)

module _ (m : Meaning) (gs : Grants) (l : Sound m) where
  can_inside : (i : Interaction) → Can m gs i → Two m.contexts i.subject i.target
  can_inside i h =
      ⊎_elim
      (pair_parts m.contexts i.subject i.target)
      (λ e. absurd (subst T (has_none i.operation) (subst (λ x. T (has (bit_and x (bit_or (m.written i.subject i.target) (granted gs i.subject i.target))) i.operation)) (l.permitted_inside i.subject i.target e) h)))
      (cases_Bool (both_inside m.contexts i.subject i.target))

  does_inside : {s t : ℕ} {test : ℕ → Bool} {i : Interaction} → Does s t test i → Can m gs i → Two m.contexts s t
  does_inside {i = i} d c = subst₂ (Two m.contexts) d.by d.on (can_inside i c)

  transition_inside : (c d : ℕ) → CanMake m gs (transition c d) → Two m.contexts c d
  transition_inside c d h = let r = makeable_done m gs (transition c d) h in does_inside r.makes r.can

  transfer_inside : (g k : ℕ) → CanMake m gs (transfer g k) → Two m.contexts g k
  transfer_inside g k h =
      let r = makeable_done m gs (transfer g k) h in
      ⊎_elim (λ w. does_inside w r.can) (λ w. let p = does_inside w r.can in (p.2, p.3, p.0, p.1)) r.makes

  pub joined_inside : (b c : ℕ) (v : Move) → Joins b c v → CanMake m gs v → Two m.contexts b c
  joined_inside b c v (inl e) h = transition_inside b c (subst (CanMake m gs) e h)
  joined_inside b c v (inr (inl e)) h = transfer_inside b c (subst (CanMake m gs) e h)
  joined_inside b c v (inr (inr e)) h = let p = transfer_inside c b (subst (CanMake m gs) e h) in (p.2, p.3, p.0, p.1)

  -- ---- activities of a kind that are realised, as walks

  module _ {kind : Search} {back : Bool} {activities : ℕ → ℕ → List Move → Type 0} (laws : KindLaws kind back activities) where
    abbrev Walks : ℕ → ℕ → ℕ → ℕ → Type 0
    Walks p c d k = Walk kind (makeable m gs) (λ x. true) p c d k

    pub activity_walk : {a b : ℕ} (ms : List Move) → activities a b ms → Realises m gs ms → Walks 0 a b (length ms)
    activity_walk {a} {b} ms h r = going_walk kind (makeable m gs) laws.some back ((laws.ways a b ms).0 h) ((realised m gs ms).0 r)

    pub record Realised (a b k : ℕ) : Type 0 where
      pub moves : List Move
      pub activity : activities a b moves
      pub realises : Realises m gs moves
      pub count : length moves ≡ k

    pub walk_activity : (a b k : ℕ) {ok : ℕ → Bool} → Walk kind (makeable m gs) ok 0 a b k → Realised a b k
    walk_activity a b k w =
        let r = walk_going kind (makeable m gs) laws.some back w in
        record { moves = r.moves; activity = (laws.ways a b r.moves).1 r.going; realises = (realised m gs r.moves).1 r.every; count = r.count }

    abbrev within : ℕ → Bool
    within c = leb c m.contexts

    walk_within : {q c d k : ℕ} → c ≤ m.contexts → Walks q c d k → Walk kind (makeable m gs) within q c d k
    walk_within {c = c} h (stop o) = stop (le→leb c m.contexts h)
    walk_within h (go {c = c} q b x f o v w) = go q b x f (le→leb b m.contexts h) v (walk_within (joined_inside b c (kind.move q b c) (laws.joins q b c) v).3 w)

    first_inside : {q c d k : ℕ} → Walks q c d k → (k ≡ 0) ⊎ (c ≤ m.contexts)
    first_inside (stop o) = inl refl
    first_inside (go {c = c} q b x f o v w) = inr (joined_inside b c (kind.move q b c) (laws.joins q b c) v).1

    -- one that is realised can be made in no more moves than there are contexts
    pub short_activity : (a b : ℕ) (ms : List Move) → activities a b ms → Realises m gs ms → (k : ℕ) × (k ≤ m.contexts) × Realised a b k
    short_activity a b ms h r =
        let w = activity_walk ms h r in
        ⊎_elim
        (λ e. (length ms, omega arith, record { moves = ms; activity = h; realises = r; count = refl }))
        (λ i. let s = shorten kind (makeable m gs) (suc m.contexts) m.contexts within (λ c t. leb→le c m.contexts t) (size_most within m.contexts) 0 a b (length ms) (walk_within i w) in
        (s.moves, omega (arith, s.few), walk_activity a b s.moves s.walk))
        (first_inside w)
