-- What a policy text says as far as it is read.
use Rattle.std.specs.Prelude.{ℕ, Bool, not, ◌||◌, List, [], ◌∷◌, length, Option, ◌==◌, nat_le}
use Rattle.access.specs.Policy.{Meaning}
use Rattle.access.specs.Refusals.{first_of}
use Rattle.access.specs.declared.refusal.Refusal.{Refusal}
use Rattle.access.specs.declared.refusal.Refusal.TheVariants.{UnfitLine, ContextCount}
use Rattle.record_table.specs.TableMeaning.{empty_table}
use Rattle.layers.specs.Layers.{with_levels, with_owners}
use Rattle.sheet.specs.Book.{Book, start, fed_all}
use Rattle.sheet.specs.declared.request.Request.{Request}
use Rattle.words.specs.Lines.{Said, context, constrain, vector, grant, property}

-- the names of the contexts from 1 on, their levels and owners, the operations that stay with one owner, and the calls of the sheet, in order
pub record Reading : Type 0 where
  pub names : List (List ℕ)
  pub level : ℕ → ℕ
  pub owner : ℕ → ℕ
  pub constrained : ℕ
  pub calls : List Request

-- before the first line
abbrev pub nothing : Reading
nothing = record { names = []; level = λ c. 0; owner = λ c. 0; constrained = 0; calls = [] }

-- the policy before any call: levels over owners over an empty record table
abbrev pub meaning_of : Reading → Meaning
meaning_of p = with_levels (with_owners (empty_table (length p.names)) p.owner p.constrained) p.level

-- the book of the sheet
abbrev pub book_of : Reading → Book
book_of p = fed_all (start (meaning_of p)) p.calls

-- no context is declared
abbrev pub no_context : Reading → Bool
no_context p = length p.names == 0

-- a `constrain` was met: it has an operation at least
abbrev pub has_constraint : Reading → Bool
has_constraint p = not (p.constrained == 0)

-- a `vector`, `grant` or `property` was met
abbrev pub has_call : Reading → Bool
has_call p = not (length p.calls == 0)

-- why a line may not stand where it does: it is out of order, no context is declared before it, or it declares a 257th
abbrev pub misplaced : Reading → Said → Option Refusal
misplaced p (context name level owner) = first_of ((has_call p || has_constraint p, UnfitLine) ∷ (nat_le 256 (length p.names), ContextCount) ∷ [])
misplaced p (constrain operations) = first_of ((has_call p, UnfitLine) ∷ (no_context p, ContextCount) ∷ [])
misplaced p (vector subject target operations) = first_of ((no_context p, ContextCount) ∷ [])
misplaced p (grant number subjects targets operations) = first_of ((no_context p, ContextCount) ∷ [])
misplaced p (property number template first second) = first_of ((no_context p, ContextCount) ∷ [])
