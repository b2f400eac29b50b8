-- What reporting a property of a sheet answers.
use Rattle.std.specs.Prelude.{◌≡◌, ℕ, ◌<◌, ◌≤◌, true, is_some, cond, List, length, nat_lt, Some, None, Ok, Err, Option, Result}
use Rattle.std.specs.Option.{option_or}
use Rattle.access.specs.declared.refusal.Refusal.{Refusal}
use Rattle.access.specs.declared.refusal.Refusal.TheVariants.{ShortMemory}
use Rattle.search.specs.declared.breadth_first.Place.{Place}
use Rattle.judge.specs.declared.step.Step.{Step}
use Rattle.judge.specs.declared.verdict.Verdict.{Verdict}
use Rattle.sheet.specs.Book.{Book, refusal}
use Rattle.sheet.specs.declared.request.Request.TheVariants.{Judge}
use Rattle.sheet.specs.Judging.{VerdictOnEntry}
use Rattle.report.specs.Parts.{part, InFront}

-- the refusal of reporting property k, over so much lent memory: that of judging it, and else that report memory is too short
abbrev pub reporting_refusal : Book → ℕ → ℕ → ℕ → ℕ → ℕ → Option Refusal
reporting_refusal b k ticks places steps bytes =
    option_or (refusal b (Judge k ticks places steps)) (cond (nat_lt bytes 16384) (Some ShortMemory) None)

-- a verdict on property k, with the lent steps before and after, is written as its part in front of report memory
pub record Reported (b : Book) (k : ℕ) (names : List (List ℕ)) (ss ss' : List Step) (ms ms' : List ℕ) (count : ℕ) : Type 0 where
  pub verdict : Verdict
  pub right : VerdictOnEntry b (b.properties k) ss ss' verdict
  pub in_front : InFront (part k verdict ss' names) ms ms' count

-- reporting property k, over so many ticks: refused as the book has it, the places, the steps and report memory as before; else its part is written
abbrev pub Reports : Book → ℕ → List (List ℕ) → ℕ → List Place → List Place → List Step → List Step → List ℕ → List ℕ → Result ℕ Refusal → Type 0
Reports b k names ticks ps ps' ss ss' ms ms' (Ok n) =
    (reporting_refusal b k ticks (length ps) (length ss) (length ms) ≡ None)
    × Reported b k names ss ss' ms ms' n
Reports b k names ticks ps ps' ss ss' ms ms' (Err why) =
    (reporting_refusal b k ticks (length ps) (length ss) (length ms) ≡ Some why)
    × (ps' ≡ ps)
    × (ss' ≡ ss)
    × (ms' ≡ ms)

-- no property above a number stands
abbrev pub NoneAbove : Book → ℕ → Type 0
NoneAbove b after = (k : ℕ) → after < k → k ≤ 64 → b.properties k ≡ None

-- property k is the first above a number that stands
pub record IsNext (b : Book) (after k : ℕ) : Type 0 where
  pub above : after < k
  pub ranged : k ≤ 64
  pub stands : is_some (b.properties k) ≡ true
  pub first : (j : ℕ) → after < j → j < k → b.properties j ≡ None
