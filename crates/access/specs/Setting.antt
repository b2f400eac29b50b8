-- What setting a pair does to a meaning, and when it is refused.
use Rattle.std.specs.Prelude.{ℕ, Bool, false, not, ◌&&◌, List, [], ◌∷◌, Option, ◌==◌}
use Rattle.access.specs.Operations.{unknown}
use Rattle.access.specs.Contexts.{both_inside}
use Rattle.access.specs.Policy.{Meaning, with_pair, with_written}
use Rattle.access.specs.Sound.{filled}
use Rattle.access.specs.Refusals.{first_of, when_accepted}
use Rattle.access.specs.declared.refusal.Refusal.{Refusal}
use Rattle.access.specs.declared.refusal.Refusal.TheVariants.{ContextOutside, UnfitOperations, NotesFull, PolicyFull}

-- the new set is not empty, the old one is, and there is no room for one pair more
abbrev pub no_room : Meaning → ℕ → ℕ → ℕ → Bool
no_room m s t ops = not (ops == 0) && m.written s t == 0 && filled m == m.capacity

-- all that may stand in the way of setting a pair among n contexts, the first first
abbrev pub setting_rungs : ℕ → ℕ → ℕ → ℕ → Bool → Bool → List (Bool × Refusal)
setting_rungs n s t ops notes_full policy_full =
    (not (both_inside n s t), ContextOutside)
    ∷ (unknown ops, UnfitOperations)
    ∷ (notes_full, NotesFull)
    ∷ (policy_full, PolicyFull)
    ∷ []

-- what does so whatever is noted and written
abbrev pub unfit_setting : ℕ → ℕ → ℕ → ℕ → Option Refusal
unfit_setting n s t ops = first_of (setting_rungs n s t ops false false)

-- what does so in a policy, which keeps no notes
abbrev pub setting_refusal : Meaning → ℕ → ℕ → ℕ → Option Refusal
setting_refusal m s t ops = first_of (setting_rungs m.contexts s t ops false (no_room m s t ops))

abbrev pub with_set : Meaning → ℕ → ℕ → ℕ → Meaning
with_set m s t ops = with_written m (with_pair m.written s t ops)

-- accepted: the set of one pair is replaced, and nothing else; refused: nothing
abbrev pub after_setting : Meaning → ℕ → ℕ → ℕ → Meaning
after_setting m s t ops = when_accepted (setting_refusal m s t ops) (with_set m s t ops) m
