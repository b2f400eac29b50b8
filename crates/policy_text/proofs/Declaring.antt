-- A context that is declared.
use Rattle.std.proofs.Common.{◌≡◌, ℕ, ◌+◌, List, [], ◌∷◌, ◌++◌, length, Ok, Err, arith}
use Rattle.std.proofs.lemmas.Grind.{common_steps}
use Rattle.words.specs.Words.{WordAt}
use Rattle.words.specs.Numbers.{label_in}
use Rattle.words.specs.declared.flaw.Flaw.{Flaw}
use Rattle.policy_text.specs.Calls.{then}
use Rattle.policy_text.specs.Reading.{Reading}
use Rattle.policy_text.specs.Lines.{with_label, new_name_in, with_context, declared}

pub new_name : (names : List (List ℕ)) (w : WordAt) (n k : ℕ) → Ok k ≡ then (new_name_in names w) (λ _. Ok n) → new_name_in names w ≡ Ok w.bytes
new_name names w n k e = grind (arith, common_steps)

pub new_number : (names : List (List ℕ)) (w : WordAt) (n k : ℕ) → Ok k ≡ then (new_name_in names w) (λ _. Ok n) → k ≡ n
new_number names w n k e = grind (arith, common_steps)

pub declared_is : (p : Reading) (a b c : WordAt) (n : List ℕ) (l o : ℕ) → new_name_in p.names a ≡ Ok n → Ok l ≡ label_in b → Ok o ≡ label_in c → declared p a b c ≡ Ok (with_context p n l o)
declared_is p a b c n l o e f g = rw (e, ← f, ← g)

-- a flaw of the level comes behind the name, and one of the owner behind both
pub level_flaw : (p : Reading) (a b c : WordAt) (n : List ℕ) (flaw : Flaw) → new_name_in p.names a ≡ Ok n → Err flaw ≡ label_in b → declared p a b c ≡ Err flaw
level_flaw p a b c n flaw e f = rw (e, ← f)

pub with_context_is : (p : Reading) (n : List ℕ) (l o : ℕ) (names : List (List ℕ)) (level owner : ℕ → ℕ) → names ≡ p.names ++ n ∷ [] → level ≡ with_label p.level (length p.names + 1) l → owner ≡ with_label p.owner (length p.names + 1) o
    → record { names = names; level = level; owner = owner; constrained = p.constrained; calls = p.calls } ≡ with_context p n l o
with_context_is p n l o names level owner e f g = rw (e, f, g)
