-- Contexts and sets of contexts.
use Rattle.std.specs.Prelude.{◌≡◌, ℕ, zero, suc, ◌+◌, ◌-◌, ◌*◌, ◌/◌, ◌%◌, ◌<◌, Bool, true, false, not, cond, ◌&&◌, ◌||◌, [], ◌∷◌, Some, None, Option, MatchOption, nat_le, nat_lt, slice_index}
use Rattle.access.specs.Operations.{has, set_of}
use Rattle.access.specs.declared.context_set.ContextSet.{ContextSet}

-- a context is a number from 1 to n
abbrev pub inside : ℕ → ℕ → Bool
inside n c = nat_le 1 c && nat_le c n

-- the index of a number that counts from 1, in a list of n
abbrev pub index_of : ℕ → ℕ → Option ℕ
index_of n k = cond (inside n k) (Some (k - 1)) None

abbrev pub both_inside : ℕ → ℕ → ℕ → Bool
both_inside n s t = inside n s && inside n t

-- context c, 1 to 256, is bit (c - 1) % 64 of word (c - 1) / 64
unfoldable pub member : ContextSet → ℕ → Bool
member set c = inside 256 c && has (slice_index set.words ((c - 1) / 64)) ((c - 1) % 64)

-- word j of a set: 64 contexts, those that pass a test
abbrev pub word_of : (ℕ → Bool) → ℕ → ℕ
word_of test j = set_of (λ i. test (64 * j + i + 1)) 64

-- the set of the contexts from 1 to 256 that pass a test
unfoldable pub marked : (ℕ → Bool) → ContextSet
marked test = record { words = word_of test 0 ∷ word_of test 1 ∷ word_of test 2 ∷ word_of test 3 ∷ [] }

-- whether some number from 1 to n passes a test
unfoldable pub some_to : ℕ → (ℕ → Bool) → Bool
some_to zero p = false
some_to (suc n) p = p (suc n) || some_to n p

abbrev pub has_above : ℕ → ContextSet → Bool
has_above n set = some_to 256 (λ c. nat_lt n c && member set c)

abbrev pub empty : ContextSet → Bool
empty set = not (some_to 256 (member set))

abbrev pub meet : ContextSet → ContextSet → Bool
meet a b = some_to 256 (λ c. member a c && member b c)

-- the lowest member of a set that is greater than n, if there is one
abbrev pub FirstAbove : ℕ → ContextSet → Option ℕ → Type 0
FirstAbove n set r = MatchOption r ((d : ℕ) → n < d → member set d ≡ false) (λ c. (n < c) × (member set c ≡ true) × ((d : ℕ) → n < d → d < c → member set d ≡ false))
