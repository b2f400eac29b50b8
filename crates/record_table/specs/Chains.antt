-- Records by their numbers, the lookup along a chain, and what the writes make of the chains.
use Rattle.std.specs.Prelude.{ℕ, zero, suc, ◌-◌, ◌<◌, ◌≤◌, Bool, cond, List, ◌∷◌, get_or, set, Some, None, Option, ◌==◌}
use Rattle.record_table.specs.declared.chains.Record.{Record}
use Rattle.record_table.specs.declared.chains.Chains.{Chains}

-- a record that is not in use
abbrev pub unused_before : ℕ → Record
unused_before next = record { target = 0; operations = record { bits = 0 }; next = next }

-- no record
abbrev pub blank : Record
blank = unused_before 0

-- the record with a number from 1 to 1024
abbrev pub numbered : List Record → ℕ → Record
numbered slots number = get_or (blank ∷ slots) number blank

-- the number of a chain's first record, or 0
abbrev pub first_of : List ℕ → ℕ → ℕ
first_of heads c = get_or heads c 0

-- a record's next one has a number up to 1024, or is none
abbrev pub LinksLow : List Record → Type 0
LinksLow slots = (k : ℕ) → k < 1024 → (get_or slots k blank).next ≤ 1024

-- the first record that passes a test, on the chain that begins at a number, in at most so many steps
unfoldable pub first_that : ℕ → (Record → Bool) → (ℕ → Record) → ℕ → Option ℕ
first_that zero test mem number = None
first_that (suc k) test mem number = cond (number == 0) None (cond (test (mem number)) (Some number) (first_that k test mem (mem number).next))

-- the record of a chain with this target: a chain has at most 1024 records
abbrev pub found : (ℕ → Record) → ℕ → ℕ → Option ℕ
found mem t number = first_that 1024 (λ r. r.target == t) mem number

-- the record of a chain whose next one is x
abbrev pub ahead : (ℕ → Record) → ℕ → ℕ → Option ℕ
ahead mem x number = first_that 1024 (λ r. r.next == x) mem number

-- the operations of a record, where there is one
abbrev pub operations_at : (ℕ → Record) → Option ℕ → ℕ
operations_at mem None = 0
operations_at mem (Some i) = (mem i).operations.bits

-- a record that goes on with another one
abbrev pub linked_to : Record → ℕ → Record
linked_to r next = record { target = r.target; operations = r.operations; next = next }

-- a record with other operations
abbrev pub with_operations : Record → ℕ → Record
with_operations r v = record { target = r.target; operations = record { bits = v }; next = r.next }

-- a record for a pair, in front of a chain
abbrev pub entry : ℕ → ℕ → ℕ → Record
entry t v next = record { target = t; operations = record { bits = v }; next = next }

-- chain c begins with another record
abbrev pub with_first : Chains → ℕ → ℕ → Chains
with_first k c i = record { heads = set k.heads c i; slots = k.slots }

-- record i is another one
abbrev pub with_record : Chains → ℕ → Record → Chains
with_record k i r = record { heads = k.heads; slots = set k.slots (i - 1) r }

-- a record left chain c: the record before it, or else the chain, goes on with the next one
abbrev pub cut : Option ℕ → Chains → ℕ → ℕ → Chains
cut None k c next = with_first k c next
cut (Some b) k c next = with_record k b (linked_to (numbered k.slots b) next)

-- record i, with this target and these operations, came to the front of chain c
abbrev pub in_front : Chains → ℕ → ℕ → ℕ → ℕ → Chains
in_front k c i t v = with_first (with_record k i (entry t v (first_of k.heads c))) c i
