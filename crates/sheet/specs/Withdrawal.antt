-- Withdrawing: every written set is as it stood at the opening.
use Rattle.std.specs.Prelude.{◌≡◌, ℕ, Bool, true, false, ◌&&◌, List, [], ◌∷◌, None}
use Rattle.sheet.specs.Book.{Book, refusal, fed, fed_all}
use Rattle.sheet.specs.declared.request.Request.{Request}
use Rattle.sheet.specs.declared.request.Request.TheVariants.{Open, Adopt, Withdraw}

-- a call that neither adopts nor withdraws
abbrev pub undeciding : Request → Bool
undeciding Adopt = false
undeciding Withdraw = false
undeciding _ = true

-- none of the calls adopts or withdraws
abbrev pub all_undeciding : List Request → Bool
all_undeciding [] = true
all_undeciding (q ∷ qs) = undeciding q && all_undeciding qs

-- after a change is opened and these calls are made, a withdrawal is accepted, and every written set is then as it stood at the opening
abbrev pub Restores : Book → List Request → Type 0
Restores b qs =
    (refusal (fed_all (fed b Open) qs) Withdraw ≡ None)
    × ((s t : ℕ) → (fed (fed_all (fed b Open) qs) Withdraw).policy.written s t ≡ b.policy.written s t)

-- so it is wherever a change can be opened, whatever settings and other calls that decide nothing are made, refused ones among them
abbrev pub WithdrawalRestores : Type 0
WithdrawalRestores = (b : Book) (qs : List Request) → refusal b Open ≡ None → all_undeciding qs ≡ true → Restores b qs
