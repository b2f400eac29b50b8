-- What holds of a book after a call, be it accepted or refused.
use Rattle.std.proofs.Common.{◌≡◌, Some, None, Option, refl}
use Rattle.access.specs.Refusals.{when_accepted}
use Rattle.access.specs.declared.refusal.Refusal.{Refusal}
use Rattle.sheet.specs.Book.{Book, refusal, accepted, fed}
use Rattle.sheet.specs.declared.request.Request.{Request}

-- what holds before a call, and after it where it is accepted, holds after it in any case
pub after : (P : Book → Type 0) (b : Book) (q : Request) → (refusal b q ≡ None → P (accepted b q)) → P b → P (fed b q)
after P b q new old = go (refusal b q) new
  where
    go : (o : Option Refusal) → (o ≡ None → P (accepted b q)) → P (when_accepted o (accepted b q) b)
    go None h = h refl
    go (Some why) h = old
