-- Worlds, grants and legal runs: what programs can do while administrators make permitted changes.
use Rattle.std.specs.Prelude.{◌≡◌, ℕ, Bool, T, List, [], ◌∷◌, bit_and, bit_or}
use Rattle.access.specs.Operations.{without}
use Rattle.access.specs.Policy.{Matrix, Meaning, Interaction, holds, with_pair}

-- a world: for each pair, the operations that are written at the moment
abbrev pub World : Type 0
World = Matrix

-- a world with operations added on one pair
abbrev pub added : World → ℕ → ℕ → ℕ → World
added w s t part = with_pair w s t (bit_or (w s t) part)

-- a world with operations removed from one pair
abbrev pub removed : World → ℕ → ℕ → ℕ → World
removed w s t part = with_pair w s t (without (w s t) part)

-- a grant lets administrators add and remove its operations on each pair of a subject and a target of its sets
pub record Grant : Type 0 where
  pub subjects : ℕ → Bool
  pub targets : ℕ → Bool
  pub operations : ℕ

-- the standing grants, each with its number
abbrev pub Grants : Type 0
Grants = List (ℕ × Grant)

-- grant g stands under number k
pub data Standing (k : ℕ) (g : Grant) : Grants → Type 0 where
  here : {gs : Grants} → Standing k g ((k, g) ∷ gs)
  there : {j : ℕ × Grant} {gs : Grants} → Standing k g gs → Standing k g (j ∷ gs)

-- a grant that stands under number k is over the pair (s, t)
pub record Over (gs : Grants) (k s t : ℕ) : Type 0 where
  pub grant : Grant
  pub stands : Standing k grant gs
  pub subject : T (grant.subjects s)
  pub target : T (grant.targets t)

-- grant k permits that `part`, some of its operations, is added or removed on the pair (s, t)
pub record Permits (gs : Grants) (k s t part : ℕ) : Type 0 where
  pub over : Over gs k s t
  pub within : bit_and part over.grant.operations ≡ part
  pub some : part ≡ 0 → ⊥

-- a legal run from a world, by its interactions in order, the permitted changes left out
pub data Run (permitted : Matrix) (gs : Grants) : World → List Interaction → Type 0 where
  stop : {w : World} → Run permitted gs w []
  add : {w : World} {is : List Interaction} (k s t part : ℕ) → Permits gs k s t part → Run permitted gs (added w s t part) is → Run permitted gs w is
  remove : {w : World} {is : List Interaction} (k s t part : ℕ) → Permits gs k s t part → Run permitted gs (removed w s t part) is → Run permitted gs w is
  act : {w : World} {is : List Interaction} (i : Interaction) → T (holds w i) → T (holds permitted i) → Run permitted gs w is → Run permitted gs w (i ∷ is)

-- a legal run starts with the policy's written sets
abbrev pub Legal : Meaning → Grants → List Interaction → Type 0
Legal m gs is = Run m.permitted gs m.written is
