-- Memory that suffices for judging and reporting, whatever the policy.
use Rattle.std.specs.Prelude.{ℕ, ◌≤◌}

-- ticks, places, steps and report memory for 256 contexts
pub record Lent (ticks places steps bytes : ℕ) : Type 0 where
  pub ticks_fit : 512 ≤ ticks
  pub places_fit : 512 ≤ places
  pub steps_fit : 256 ≤ steps
  pub bytes_fit : 16384 ≤ bytes
