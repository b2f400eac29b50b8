-- Words that name contexts, and sets of them.
use Rattle.std.specs.Prelude.{ℕ, Bool, false, cond, List, Some, None, Ok, Err, Result, ◌==◌, ok_or, is_some}
use Rattle.std.specs.List.{list_all, list_any}
use Rattle.access.specs.Contexts.{marked}
use Rattle.access.specs.declared.context_set.ContextSet.{ContextSet}
use Rattle.access.specs.declared.refusal.Refusal.TheVariants.{UnfitWord, UnfitName}
use Rattle.words.specs.Shape.{is_name}
use Rattle.words.specs.Numbering.{number_of_name}
use Rattle.words.specs.Parts.{parts}
use Rattle.words.specs.Words.{WordAt}
use Rattle.words.specs.Flaws.{at_word}
use Rattle.words.specs.declared.flaw.Flaw.{Flaw}

-- the name that a word is
abbrev pub name_in : WordAt → Result (List ℕ) Flaw
name_in w = cond (is_name w.bytes) (Ok w.bytes) (Err (at_word w UnfitWord))

-- the number of the context that a word names
abbrev pub context_in : List (List ℕ) → WordAt → Result ℕ Flaw
context_in names w = cond (is_name w.bytes) (ok_or (number_of_name names w.bytes) (at_word w UnfitName)) (Err (at_word w UnfitWord))

-- whether a name is declared
abbrev pub is_known : List (List ℕ) → List ℕ → Bool
is_known names name = is_some (number_of_name names name)

-- whether a context is called by a name
abbrev pub is_called : List (List ℕ) → ℕ → List ℕ → Bool
is_called names c name = elim (number_of_name names name) [ None ↦ false | Some k ↦ c == k ]

-- the set of contexts that a word names: names parted by commas. That each part is a name comes before that it is known
abbrev pub set_in : List (List ℕ) → WordAt → Result ContextSet Flaw
set_in names w =
    cond (list_all is_name (parts 44 w.bytes))
    (cond (list_all (is_known names) (parts 44 w.bytes))
    (Ok (marked (λ c. list_any (is_called names c) (parts 44 w.bytes))))
    (Err (at_word w UnfitName)))
    (Err (at_word w UnfitWord))
