-- The walk along a chain, step by step.
use Rattle.std.specs.Prelude.{◌≡◌, ℕ, zero, suc, ◌-◌, ◌<◌, ◌≤◌, Bool, true, false, List, Some, None, ◌≢◌, get_or}
use Rattle.std.proofs.Math.Path.{refl}
use Rattle.std.proofs.Common.{arith}
use Rattle.std.proofs.lemmas.Bool.{ne_eqb}
use Rattle.record_table.specs.declared.chains.Record.{Record}
use Rattle.record_table.specs.Chains.{blank, numbered, LinksLow, first_that}

pub numbered_is : (slots : List Record) (x : ℕ) → 1 ≤ x → numbered slots x ≡ get_or slots (x - 1) blank
numbered_is slots zero h = absurd (omega arith)
numbered_is slots (suc x) h = let e : suc x - 1 ≡ x = omega arith in rw e refl

pub next_low : (slots : List Record) → LinksLow slots → (x : ℕ) → 1 ≤ x → x ≤ 1024 → (numbered slots x).next ≤ 1024
next_low slots low x h k = rw (numbered_is slots x h) (low (x - 1) (omega arith))

module _ (test : Record → Bool) (mem : ℕ → Record) where
  pub that_done : (k x : ℕ) → k ≡ 0 → first_that k test mem x ≡ None
  unfolding first_that
  that_done k x e = rw e refl

  pub that_end : (k x : ℕ) → x ≡ 0 → first_that k test mem x ≡ None
  unfolding first_that
  that_end zero x e = refl
  that_end (suc k) x e = rw e refl

  pub that_here : (k x : ℕ) → 0 < k → (x ≢ 0) → test (mem x) ≡ true → first_that k test mem x ≡ Some x
  unfolding first_that
  that_here zero x h n e = absurd (omega arith)
  that_here (suc k) x h n e = rw (ne_eqb x 0 n, e)

  pub that_next : (k m x : ℕ) → k ≡ suc m → (x ≢ 0) → test (mem x) ≡ false → first_that k test mem x ≡ first_that m test mem (mem x).next
  unfolding first_that
  that_next k m x s n e = rw s (rw (ne_eqb x 0 n, e))
