-- How the moves of an activity stand in the order in which they are made, for every kind of activity alike.
use Rattle.std.specs.Prelude.{◌≡◌, ℕ, suc, ◌-◌, ◌<◌, ◌≤◌, Bool, cond, ◌⊎◌, ◌↔◌, List, [], ◌∷◌, ◌++◌, reverse}
use Rattle.verdicts.specs.Activities.{Move, transition, transfer, Chain}
use Rattle.verdicts.specs.First.{along_way, leg}
use Rattle.verdicts.specs.Searches.{Search}

-- moves from one context on to another, in phases from p on that do not fall and are before the last
pub data Early (kind : Search) : ℕ → ℕ → ℕ → List Move → Type 0 where
  here : {p c : ℕ} → Early kind p c c []
  on : {p q c d : ℕ} {ms : List Move} (b : ℕ) → p ≤ q → suc q < kind.phases → Early kind q c d ms → Early kind p b d (kind.move q b c ∷ ms)

-- the move by which a kind goes on in its last phase
abbrev pub last_move : Search → ℕ → ℕ → Move
last_move kind = kind.move (kind.phases - 1)

-- moves in reverse, where they are made backwards
abbrev pub turned : Bool → List Move → List Move
turned back ms = cond back (reverse ms) ms

-- from a to b: moves of the phases before the last, and then those of the last
pub record Going (kind : Search) (back : Bool) (a b : ℕ) (ms : List Move) : Type 0 where
  pub via : ℕ
  pub front : List Move
  pub rest : List Move
  pub early : Early kind 0 a via front
  pub late : Chain (last_move kind) via b rest
  pub order : ms ≡ front ++ turned back rest

-- a move joins two contexts
abbrev pub Joins : ℕ → ℕ → Move → Type 0
Joins b c v = (v ≡ transition b c) ⊎ ((v ≡ transfer b c) ⊎ (v ≡ transfer c b))

-- along its way an activity goes from context to context, and a move of an earlier phase is told by a lower number
pub record WayLaws (kind : Search) (back : Bool) : Type 0 where
  pub tag : ℕ → ℕ
  pub rising : (q r : ℕ) → q < r → r < kind.phases → tag q < tag r
  pub legs : (q b c : ℕ) → leg back (kind.move q b c) ≡ b ∷ tag q ∷ c ∷ []
  pub turns : {a v b : ℕ} {front rest : List Move} → Early kind 0 a v front → Chain (last_move kind) v b rest
      → (along_way back (front ++ turned back rest) ≡ front ++ rest) × (along_way back (front ++ rest) ≡ front ++ turned back rest)

-- the activities of a kind are the ways in which it goes
pub record KindLaws (kind : Search) (back : Bool) (activities : ℕ → ℕ → List Move → Type 0) : Type 0 where
  pub some : 1 ≤ kind.phases
  pub few : kind.phases ≤ 2
  pub joins : (q b c : ℕ) → Joins b c (kind.move q b c)
  pub ways : (a b : ℕ) (ms : List Move) → activities a b ms ↔ Going kind back a b ms
  pub way : WayLaws kind back
