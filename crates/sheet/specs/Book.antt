-- The book: what stands on a sheet, told from the calls alone.
use Rattle.std.specs.Prelude.{ℕ, ◌+◌, min, Bool, false, not, ◌||◌, List, [], ◌∷◌, is_some, Some, None, Option, ◌==◌, nat_le}
use Rattle.std.specs.Option.{option_or}
use Rattle.access.specs.Operations.{unknown}
use Rattle.access.specs.Contexts.{inside}
use Rattle.access.specs.Policy.{Matrix, Meaning, with_written}
use Rattle.access.specs.Refusals.{first_of, when_accepted}
use Rattle.access.specs.Setting.{setting_rungs, no_room, with_set}
use Rattle.access.specs.declared.refusal.Refusal.{Refusal}
use Rattle.access.specs.declared.refusal.Refusal.TheVariants.{NumberOutside, StandsAlready, StandsNot, UnfitOperations, UnfitSet, OpenAlready, NoneOpen, ShortMemory}
use Rattle.sheet.specs.Entries.{Entries, put}
use Rattle.sheet.specs.Standing.{entering_refusal, striking_refusal}
use Rattle.judge.specs.declared.grant.Grant.{Grant}
use Rattle.judge.specs.Sought.{short}
use Rattle.access.specs.Fitness.{unfit, property_refusal}
use Rattle.access.specs.declared.property.Property.{Property}
use Rattle.sheet.specs.declared.request.Request.{Request}
use Rattle.sheet.specs.declared.request.Request.TheVariants.{Set, EnterGrant, StrikeGrant, EnterProperty, StrikeProperty, Open, Adopt, Withdraw, Judge}

-- an open change: the written sets as they stood at its opening, and how many settings it notes
pub record Opened : Type 0 where
  pub copy : Matrix
  pub notes : ℕ

-- what stands on a sheet; the count of settings is that of the accepted ones
pub record Book : Type 0 where
  pub policy : Meaning
  pub settings : ℕ
  pub grants : Entries Grant
  pub properties : Entries Property
  pub change : Option Opened

-- the book of a sheet that is laid out
abbrev pub start : Meaning → Book
start m = record { policy = m; settings = 0; grants = λ k. None; properties = λ k. None; change = None }

-- a change is open and notes as many settings as it can
abbrev pub notes_full : Option Opened → Bool
notes_full None = false
notes_full (Some o) = nat_le 128 o.notes

-- the refusal of a call: the first of its list that applies; a question meets none
abbrev pub refusal : Book → Request → Option Refusal
refusal b (Set s t ops) = first_of (setting_rungs b.policy.contexts s t ops.bits (notes_full b.change) (no_room b.policy s t ops.bits))
refusal b (EnterGrant k g) =
    first_of (
    (not (inside 32 k), NumberOutside)
    ∷ (is_some (b.grants k), StandsAlready)
    ∷ (unknown g.operations.bits || (g.operations.bits == 0), UnfitOperations)
    ∷ (unfit b.policy.contexts g.subjects || unfit b.policy.contexts g.targets, UnfitSet)
    ∷ [])
refusal b (StrikeGrant k) = striking_refusal 32 b.grants k
refusal b (EnterProperty k p) = option_or (entering_refusal 64 b.properties k) (property_refusal b.policy.contexts p)
refusal b (StrikeProperty k) = striking_refusal 64 b.properties k
refusal b Open = first_of ((is_some b.change, OpenAlready) ∷ [])
refusal b Adopt = first_of ((not (is_some b.change), NoneOpen) ∷ [])
refusal b Withdraw = first_of ((not (is_some b.change), NoneOpen) ∷ [])
refusal b (Judge k ticks places steps) =
    first_of (
    (not (inside 64 k), NumberOutside)
    ∷ (not (is_some (b.properties k)), StandsNot)
    ∷ (short 2 b.policy.contexts ticks places steps, ShortMemory)
    ∷ [])
refusal b _ = None

-- an open change notes one setting more
abbrev pub one_more : Option Opened → Option Opened
one_more None = None
one_more (Some o) = Some (record { copy = o.copy; notes = o.notes + 1 })

-- the written sets are again as they stood at the opening
abbrev pub put_back : Option Opened → Meaning → Meaning
put_back None m = m
put_back (Some o) m = with_written m o.copy

-- a book with its grants replaced
abbrev pub with_grants : Book → Entries Grant → Book
with_grants b f = record { policy = b.policy; settings = b.settings; grants = f; properties = b.properties; change = b.change }

-- a book with its properties replaced
abbrev pub with_properties : Book → Entries Property → Book
with_properties b f = record { policy = b.policy; settings = b.settings; grants = b.grants; properties = f; change = b.change }

-- a book with its policy and its open change replaced
abbrev pub with_change : Book → Meaning → Option Opened → Book
with_change b m c = record { policy = m; settings = b.settings; grants = b.grants; properties = b.properties; change = c }

-- the book after a call that is accepted: judging and questions alter nothing
abbrev pub accepted : Book → Request → Book
accepted b (Set s t ops) = record { policy = with_set b.policy s t ops.bits; settings = min (b.settings + 1) 4294967295; grants = b.grants; properties = b.properties; change = one_more b.change }
accepted b (EnterGrant k g) = with_grants b (put b.grants k (Some g))
accepted b (StrikeGrant k) = with_grants b (put b.grants k None)
accepted b (EnterProperty k p) = with_properties b (put b.properties k (Some p))
accepted b (StrikeProperty k) = with_properties b (put b.properties k None)
accepted b Open = with_change b b.policy (Some (record { copy = b.policy.written; notes = 0 }))
accepted b Adopt = with_change b b.policy None
accepted b Withdraw = with_change b (put_back b.change b.policy) None
accepted b _ = b

-- the book after a call: a refused one alters nothing
abbrev pub fed : Book → Request → Book
fed b q = when_accepted (refusal b q) (accepted b q) b

-- the book after a list of calls
abbrev pub fed_all : Book → List Request → Book
fed_all b [] = b
fed_all b (q ∷ qs) = fed_all (fed b q) qs
