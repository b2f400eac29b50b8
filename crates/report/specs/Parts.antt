-- A property's part of a report.
use Rattle.std.specs.Prelude.{◌≡◌, ℕ, Bool, true, not, ◌&&◌, ◌||◌, List, [], ◌∷◌, ◌++◌, length, take, drop, codes, decimal, flat_map, nat_le, nat_lt, Some, None, Ok, Err, Option, Result}
use Rattle.access.specs.Operations.{name_of}
use Rattle.access.specs.Refusals.{first_of}
use Rattle.access.specs.declared.refusal.Refusal.{Refusal}
use Rattle.access.specs.declared.refusal.Refusal.TheVariants.{ShortMemory}
use Rattle.judge.specs.declared.step.Step.{Step}
use Rattle.judge.specs.declared.verdict.Verdict.{Verdict}
use Rattle.judge.specs.declared.verdict.Verdict.TheVariants.{Guaranteed, Broken}
use Rattle.words.specs.Numbering.{name_of_number}

-- a space and a word
abbrev pub spaced : List ℕ → List ℕ
spaced word = 32 ∷ word

-- the line of a step, over the contexts' names: its subject, operation, target and origin, a space before each, and a line feed
abbrev pub step_line : List (List ℕ) → Step → List ℕ
step_line names step =
    spaced (name_of_number names step.subject)
    ++ spaced (name_of step.operation)
    ++ spaced (name_of_number names step.target)
    ++ spaced (decimal step.origin)
    ++ codes "\n"

-- the lines of steps, in their order
abbrev pub step_lines : List (List ℕ) → List Step → List ℕ
step_lines names steps = flat_map (step_line names) steps

-- that a property is broken in so many steps, and these
abbrev pub broken : List Step → List (List ℕ) → List ℕ
broken steps names = codes " broken " ++ decimal (length steps) ++ codes "\n" ++ step_lines names steps

-- what a verdict says, the first n of the steps being those of a broken property
abbrev pub said : Verdict → List Step → List (List ℕ) → List ℕ
said Guaranteed steps names = codes " guaranteed\n"
said (Broken n) steps names = broken (take n steps) names

-- the part of property k: its number, and what the verdict on it says
abbrev pub part : ℕ → Verdict → List Step → List (List ℕ) → List ℕ
part k v steps names = decimal k ++ said v steps names

-- bytes stand in front of memory, their count is told, and the memory behind them is as before
pub record InFront (bytes before after : List ℕ) (count : ℕ) : Type 0 where
  pub all : count ≡ length bytes
  pub written : after ≡ bytes ++ drop count before

-- the steps of a verdict stand among so many, and are no more than a report has room for
abbrev pub has_room_for : Verdict → ℕ → Bool
has_room_for Guaranteed steps = true
has_room_for (Broken n) steps = nat_le n steps && nat_le n 256

-- the refusal of writing what a verdict says, over so many steps and so many bytes
abbrev pub part_refusal : Verdict → ℕ → ℕ → Option Refusal
part_refusal v steps bytes = first_of ((nat_lt bytes 16384 || not (has_room_for v steps), ShortMemory) ∷ [])

-- writing what a verdict says: refused, the memory as before; else that stands in front
abbrev pub WritesPart : ℕ → Verdict → List Step → List (List ℕ) → List ℕ → List ℕ → Result ℕ Refusal → Type 0
WritesPart k v steps names ms ms' (Ok n) = (part_refusal v (length steps) (length ms) ≡ None) × InFront (part k v steps names) ms ms' n
WritesPart k v steps names ms ms' (Err why) = (part_refusal v (length steps) (length ms) ≡ Some why) × (ms' ≡ ms)
