-- What the level and the owner rule leave.
use Rattle.std.proofs.Common.{◌≡◌, ℕ, Bool, true, false, not, ◌&&◌, ◌||◌, leb, ◌∙◌, ap, ap₂, arith}
use Rattle.std.proofs.lemmas.Bool.Decides.{nat_tests}
use Rattle.access.specs.Operations.{has, read_op, write_op, execute_op, read_like, write_like, execute_like}
use Rattle.access.proofs.Bits.{has_none, has_without}
use Rattle.access.proofs.OperationLaws.{has_kinds}
use Rattle.layers.specs.Layers.{unless, level_rule}
use Rattle.layers.specs.LayerLaws.{LevelLaw, OwnerLaw}

has_unless : (test : Bool) (barred set o : ℕ) → has (unless test barred set) o ≡ (has set o && (test || not (has barred o)))
has_unless true barred set o = grind (arith, nat_tests, has_without set 0 o, has_none o)
has_unless false barred set o = grind (arith, nat_tests, has_without set barred o)

has_level : (level : ℕ → ℕ) (s t set o : ℕ) → has (level_rule level s t set) o ≡ ((has set o && (leb (level s) (level t) || not (read_op o))) && (leb (level t) (level s) || not (write_op o || execute_op o)))
has_level level s t set o =
    let reading = has_kinds read_like o (λ e. e) in
    let changing = has_kinds (λ k. write_like k || execute_like k) o (λ e. e) in
    has_unless _ _ _ o ∙ ap₂ ◌&&◌ (has_unless _ _ set o ∙ ap (λ x. has set o && (leb (level s) (level t) || not x)) reading) (ap (λ x. leb (level t) (level s) || not x) changing)

pub level_leaves : LevelLaw
level_leaves m level i = grind (arith, nat_tests, has_level)

pub owner_leaves : OwnerLaw
owner_leaves m owner constrained i = grind (arith, nat_tests, has_unless)
