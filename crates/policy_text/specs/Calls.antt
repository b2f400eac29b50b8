-- The calls of a sheet that lines ask for.
use Rattle.std.specs.Prelude.{ℕ, false, List, Some, None, Ok, Err, Option, Result, bit_or}
use Rattle.access.specs.Contexts.{marked}
use Rattle.access.specs.declared.context_set.ContextSet.{ContextSet}
use Rattle.judge.specs.declared.grant.Grant.{Grant}
use Rattle.access.specs.declared.property.Property.{Property}
use Rattle.sheet.specs.Book.{Book}
use Rattle.sheet.specs.declared.request.Request.{Request}
use Rattle.sheet.specs.declared.request.Request.TheVariants.{Set, EnterGrant, EnterProperty}
use Rattle.words.specs.Words.{WordAt}
use Rattle.words.specs.Numbers.{number_in}
use Rattle.words.specs.Operations.{operations_in}
use Rattle.words.specs.Templates.{template_in}
use Rattle.words.specs.declared.flaw.Flaw.{Flaw}
use Rattle.words.specs.Contexts.{context_in, set_in}

-- the first flaw, or what comes of a value
abbrev pub then : {X Y : Type 0} → Result X Flaw → (X → Result Y Flaw) → Result Y Flaw
then (Ok x) f = f x
then (Err flaw) f = Err flaw

-- vector S T OP ..: what is written for the pair, with more operations
abbrev pub setting_call : List (List ℕ) → Book → WordAt → WordAt → List WordAt → Result Request Flaw
setting_call names b subject target added =
    then (context_in names subject) (λ s.
    then (context_in names target) (λ t.
    then (operations_in added) (λ ops. Ok (Set s t (record { bits = bit_or (b.policy.written s t) ops.bits })))))

-- a grant by its two sets and its operations
abbrev pub grant_in : List (List ℕ) → WordAt → WordAt → List WordAt → Result Grant Flaw
grant_in names subjects targets granted =
    then (set_in names subjects) (λ s.
    then (set_in names targets) (λ t.
    then (operations_in granted) (λ ops. Ok (record { subjects = s; targets = t; operations = ops }))))

-- grant N SET SET OP ..
abbrev pub grant_call : List (List ℕ) → WordAt → WordAt → WordAt → List WordAt → Result Request Flaw
grant_call names number subjects targets granted =
    then (number_in number) (λ k.
    then (grant_in names subjects targets granted) (λ g. Ok (EnterGrant k g)))

-- a second set that no word names is empty
abbrev pub second_in : List (List ℕ) → Option WordAt → Result ContextSet Flaw
second_in names None = Ok (marked (λ c. false))
second_in names (Some w) = set_in names w

-- a property by its template and its sets
abbrev pub property_in : List (List ℕ) → WordAt → WordAt → Option WordAt → Result Property Flaw
property_in names template first second =
    then (template_in template) (λ t.
    then (set_in names first) (λ a.
    then (second_in names second) (λ b. Ok (record { template = t; first = a; second = b }))))

-- property N TEMPLATE SET [SET]
abbrev pub property_call : List (List ℕ) → WordAt → WordAt → WordAt → Option WordAt → Result Request Flaw
property_call names number template first second =
    then (number_in number) (λ k.
    then (property_in names template first second) (λ p. Ok (EnterProperty k p)))
