-- What a line says to what is read before it.
use Rattle.std.specs.Prelude.{ℕ, ◌+◌, cond, List, [], ◌∷◌, ◌++◌, length, Some, None, Ok, Err, Option, Result, ◌==◌, nat_lt, bit_or}
use Rattle.access.specs.declared.refusal.Refusal.{Refusal}
use Rattle.access.specs.declared.refusal.Refusal.TheVariants.{UnfitLine, UnfitName}
use Rattle.sheet.specs.Book.{refusal}
use Rattle.sheet.specs.declared.request.Request.{Request}
use Rattle.words.specs.Words.{WordAt, words_of}
use Rattle.words.specs.Lines.{Said, context, constrain, vector, grant, property, line_of}
use Rattle.words.specs.Flaws.{of_line, at_word}
use Rattle.words.specs.Numbers.{label_in}
use Rattle.words.specs.Operations.{operations_in}
use Rattle.words.specs.declared.flaw.Flaw.{Flaw}
use Rattle.words.specs.Contexts.{name_in, is_known}
use Rattle.policy_text.specs.Calls.{then, setting_call, grant_call, property_call}
use Rattle.policy_text.specs.Reading.{Reading, book_of, misplaced}

-- a refusal is the line's flaw; without one something comes of the line
abbrev pub unless_refused : Option Refusal → Result Reading Flaw → Result Reading Flaw
unless_refused None comes = comes
unless_refused (Some why) comes = Err (of_line why)

-- labels with that of one context replaced
abbrev pub with_label : (ℕ → ℕ) → ℕ → ℕ → ℕ → ℕ
with_label labels k label c = cond (c == k) label (labels c)

-- a name that is not declared yet
abbrev pub new_name_in : List (List ℕ) → WordAt → Result (List ℕ) Flaw
new_name_in names w = then (name_in w) (λ name. cond (is_known names name) (Err (at_word w UnfitName)) (Ok name))

-- one context more
abbrev pub with_context : Reading → List ℕ → ℕ → ℕ → Reading
with_context p name level owner = record {
  names = p.names ++ name ∷ [];
  level = with_label p.level (length p.names + 1) level;
  owner = with_label p.owner (length p.names + 1) owner;
  constrained = p.constrained;
  calls = p.calls;
}

-- context NAME LEVEL OWNER
abbrev pub declared : Reading → WordAt → WordAt → WordAt → Result Reading Flaw
declared p name level owner =
    then (new_name_in p.names name) (λ n.
    then (label_in level) (λ l.
    then (label_in owner) (λ o. Ok (with_context p n l o))))

-- constrain OP ..
abbrev pub constrained : Reading → List WordAt → Result Reading Flaw
constrained p operations = then (operations_in operations) (λ ops. Ok (record {
  names = p.names;
  level = p.level;
  owner = p.owner;
  constrained = bit_or p.constrained ops.bits;
  calls = p.calls;
}))

-- one call more
abbrev pub with_call : Reading → Request → Reading
with_call p q = record { names = p.names; level = p.level; owner = p.owner; constrained = p.constrained; calls = p.calls ++ q ∷ [] }

-- a call that is accepted is one more
abbrev pub called : Reading → Request → Result Reading Flaw
called p q = unless_refused (refusal (book_of p) q) (Ok (with_call p q))

-- what comes of a line that may stand where it does
abbrev pub followed : Reading → Said → Result Reading Flaw
followed p (context name level owner) = declared p name level owner
followed p (constrain operations) = constrained p operations
followed p (vector subject target operations) = then (setting_call p.names (book_of p) subject target operations) (called p)
followed p (grant number subjects targets operations) = then (grant_call p.names number subjects targets operations) (called p)
followed p (property number template first second) = then (property_call p.names number template first second) (called p)

-- a line that is well-formed is followed, if it may stand where it does
abbrev pub placed : Reading → Option Said → Result Reading Flaw
placed p None = Err (of_line UnfitLine)
placed p (Some line) = unless_refused (misplaced p line) (followed p line)

-- a line of at most 1,024 bytes
abbrev pub line_read : Reading → List ℕ → Result Reading Flaw
line_read p line = cond (nat_lt 1024 (length line)) (Err (of_line UnfitLine)) (placed p (line_of (words_of line)))
