-- What a request leaves of the open change.
use Rattle.std.proofs.Common.{◌≡◌, ℕ, is_some, Some, None, Option, refl, sym, ap, ◌∙◌}
use Rattle.sheet.specs.Book.{Opened, Book, accepted, fed, one_more}
use Rattle.sheet.specs.declared.request.Request.{Request}
use Rattle.sheet.specs.declared.request.Request.TheVariants.{Judge}
use Rattle.sheet.proofs.Accepted.{after}

-- where a call that is accepted leaves a change open or not, it does so in any case
pub still_open : (b b' : Book) (q : Request) → is_some (accepted b q).change ≡ is_some b.change → b' ≡ fed b q → is_some b.change ≡ is_some b'.change
still_open b b' q h e = sym (ap (λ (x : Book). is_some x.change) e ∙ after (λ (x : Book). is_some x.change ≡ is_some b.change) b q (λ _. h) refl)

-- a note more leaves it so
pub noting : (c : Option Opened) → is_some (one_more c) ≡ is_some c
noting None = refl
noting (Some o) = refl

-- judging alters nothing
pub judging_alters_nothing : (b : Book) (k ticks places steps : ℕ) → b ≡ fed b (Judge k ticks places steps)
judging_alters_nothing b k ticks places steps = after (λ (x : Book). b ≡ x) b (Judge k ticks places steps) (λ _. refl) refl
