-- The names of the contexts in the order of their declaration, each as its bytes.
use Rattle.std.specs.Prelude.{ℕ, ◌-◌, Bool, cond, List, [], ◌∷◌, ◌++◌, Option, length, nat_eq, nat_le, is_some, slice_index_or}
use Rattle.std.specs.List.{position_from}
use lib.Pointwise.{pointwise}
use Rattle.access.specs.Contexts.{inside}
use Rattle.access.specs.Refusals.{first_of, when_accepted}
use Rattle.access.specs.declared.refusal.Refusal.{Refusal}
use Rattle.access.specs.declared.refusal.Refusal.TheVariants.{ContextCount, UnfitName}

-- whether two words are the same
abbrev pub same_word : List ℕ → List ℕ → Bool
same_word = pointwise nat_eq

-- the number, from 1, of the first of the names that is a word
abbrev pub number_of_name : List (List ℕ) → List ℕ → Option ℕ
number_of_name names word = position_from (λ name. same_word name word) 1 names

-- the name under a number from 1, and nothing where there is none
abbrev pub name_of_number : List (List ℕ) → ℕ → List ℕ
name_of_number names k = cond (inside (length names) k) (slice_index_or names (k - 1) []) []

-- why a name cannot be declared: the first of the list that applies
abbrev pub declaring_refusal : List (List ℕ) → List ℕ → Option Refusal
declaring_refusal names name =
    first_of ((nat_le 256 (length names), ContextCount) ∷ (is_some (number_of_name names name), UnfitName) ∷ [])

-- accepted: the name is the last; refused: nothing has changed
abbrev pub after_declaring : List (List ℕ) → List ℕ → List (List ℕ)
after_declaring names name = when_accepted (declaring_refusal names name) (names ++ name ∷ []) names
