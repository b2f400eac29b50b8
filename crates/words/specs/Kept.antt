-- How a name is kept: its bytes, and zeros behind them, sixteen in all.
use Rattle.std.specs.Prelude.{◌≡◌, ℕ, ◌-◌, ◌≤◌, List, ◌++◌, true, length, take, replicate}
use Rattle.std.proofs.Common.{ap₂, arith}
use Rattle.std.proofs.lemmas.List.{length-take-le}
use Rattle.words.specs.declared.name.Name.TheInside.{Inside}
use Rattle.words.specs.Shape.{is_name}

-- a word with zeros behind it
abbrev pub padded : List ℕ → List ℕ
padded w = w ++ replicate (16 - length w) 0

-- how a word is kept
abbrev pub kept : List ℕ → Inside
kept w = record { bytes = padded w; len = length w }

pub record Kept (name : Inside) : Type 0 where
  pub sixteen : length name.bytes ≡ 16
  pub within : name.len ≤ 16
  pub named : is_name (take name.len name.bytes) ≡ true
  pub zeros : padded (take name.len name.bytes) ≡ name.bytes

-- what is kept gives the name's fields back
pub kept_whole : (name : Inside) → Kept name → kept (take name.len name.bytes) ≡ name
kept_whole name k = ap₂ (λ bs n. record { bytes = bs; len = n }) k.zeros (length-take-le name.len name.bytes (omega (arith, k.sixteen, k.within)))
