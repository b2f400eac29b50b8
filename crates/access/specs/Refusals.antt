-- The numbers and words of the refusals, and lists of refusals read in order.
use Rattle.std.specs.Prelude.{ℕ, Bool, cond, List, [], ◌∷◌, codes, Some, None, Ok, Err, Option, Result}
use Rattle.access.specs.declared.refusal.Refusal.{Refusal}
use Rattle.access.specs.declared.refusal.Refusal.TheVariants.{NumberOutside, StandsAlready, StandsNot, ContextOutside, UnfitOperations, UnfitSet, SharedContext, OpenAlready, NoneOpen, NotesFull, PolicyFull, ShortMemory, LongText, UnfitLine, ContextCount, UnfitWord, UnfitName}

abbrev pub refusal_number : Refusal → ℕ
refusal_number NumberOutside = 1
refusal_number StandsAlready = 2
refusal_number StandsNot = 3
refusal_number ContextOutside = 4
refusal_number UnfitOperations = 5
refusal_number UnfitSet = 6
refusal_number SharedContext = 7
refusal_number OpenAlready = 8
refusal_number NoneOpen = 9
refusal_number NotesFull = 10
refusal_number PolicyFull = 11
refusal_number ShortMemory = 12
refusal_number LongText = 13
refusal_number UnfitLine = 14
refusal_number ContextCount = 15
refusal_number UnfitWord = 16
refusal_number UnfitName = 17

-- what a refusal is called in words
abbrev pub words_of : Refusal → List ℕ
words_of NumberOutside = codes "a grant or property number is outside its range"
words_of StandsAlready = codes "the number to be entered stands already"
words_of StandsNot = codes "the number to be struck or judged does not stand"
words_of ContextOutside = codes "a context of a setting is outside 1 to n"
words_of UnfitOperations = codes "an operation set holds an unknown operation, or a grant's is empty"
words_of UnfitSet = codes "a set has a member above n, or is empty or filled where it may not be"
words_of SharedContext = codes "the two sets of a property share a context"
words_of OpenAlready = codes "a change is open already"
words_of NoneOpen = codes "no change is open"
words_of NotesFull = codes "the open change notes 128 settings already"
words_of PolicyFull = codes "the policy has no room for one pair more"
words_of ShortMemory = codes "working memory or report memory is too short"
words_of LongText = codes "the text is longer than 65,536 bytes"
words_of UnfitLine = codes "a line is too long, without its line feed, ill-formed or out of order"
words_of ContextCount = codes "no context is declared, or more than 256 are"
words_of UnfitWord = codes "a word has not its shape"
words_of UnfitName = codes "a name is unknown, or declared again"

-- the first refusal of a list that applies, or none
abbrev pub first_of : List (Bool × Refusal) → Option Refusal
first_of [] = None
first_of (r ∷ rs) = cond r.0 (Some r.1) (first_of rs)

-- a call that is accepted makes the new, and one that is refused leaves the old
abbrev pub when_accepted : {A : Type 0} → Option Refusal → A → A → A
when_accepted (Some r) new old = old
when_accepted None new old = new

-- what a call answers that has nothing to say but its refusal
abbrev pub answer : Option Refusal → Result (Unit {0}) Refusal
answer (Some r) = Err r
answer None = Ok tt
