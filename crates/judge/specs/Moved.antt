-- What the code's moves and steps mean.
use Rattle.std.specs.Prelude.{◌≡◌, ℕ, Option, MatchOption, bit_and}
use Rattle.access.specs.Operations.{number_of, Lowest, LacksAll}
use Rattle.access.specs.Policy.{Meaning, Interaction}
use Rattle.verdicts.specs.Runs.{Grants}
use Rattle.verdicts.specs.Possible.{possible}
use Rattle.verdicts.specs.Activities.{Move as Moving, transition, transfer, contact, Makes}
use Rattle.verdicts.specs.Verdicts.{Step as Stepping, Possible, Origin, AsStep}
use Rattle.judge.specs.Grants.{doing}
use Rattle.judge.specs.declared.movement.Move.{Move}
use Rattle.judge.specs.declared.movement.Move.TheVariants.{Transition, Transfer, Contact}
use Rattle.judge.specs.declared.movement.Link.{Link}
use Rattle.judge.specs.declared.movement.Link.TheVariants.{Becoming, Giving, Getting, Doing}
use Rattle.judge.specs.declared.step.Step.{Step}

abbrev pub moved : Move → Moving
moved (Transition c d) = transition c d
moved (Transfer g k) = transfer g k
moved (Contact s t) = contact s t

-- the move by which one context leads to another
abbrev pub linked : Link → ℕ → ℕ → Moving
linked Becoming c d = transition c d
linked Giving c d = transfer c d
linked Getting c d = transfer d c
linked Doing c d = contact c d

abbrev pub stepped : Step → Stepping
stepped s = record { interaction = doing s.subject s.target (number_of s.operation); origin = s.origin }

-- no legal run makes a move
abbrev pub NoneMakes : Meaning → Grants → Moving → Type 0
NoneMakes m gs v = (i : Interaction) → Makes v i → Possible m gs i → ⊥

-- what shows a move: a step, if some legal run makes the move
abbrev pub ShownAs : Meaning → Grants → Moving → Option Step → Type 0
ShownAs m gs v r = MatchOption r (NoneMakes m gs v) (λ s. AsStep m gs v (stepped s))

-- a step of s on t by the lowest operation of a set that is possible, with its origin
pub record LowestStep (m : Meaning) (gs : Grants) (s t among : ℕ) (step : Step) : Type 0 where
  pub by : step.subject ≡ s
  pub on : step.target ≡ t
  pub lowest : Lowest (bit_and among (possible m gs s t)) (number_of step.operation)
  pub from : Origin m gs (doing s t (number_of step.operation)) step.origin

-- such a step, if an operation of the set is possible
abbrev pub LowestOf : Meaning → Grants → ℕ → ℕ → ℕ → Option Step → Type 0
LowestOf m gs s t among r = MatchOption r (LacksAll (bit_and among (possible m gs s t))) (LowestStep m gs s t among)
