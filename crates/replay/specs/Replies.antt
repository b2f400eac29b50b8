-- What answers mean, and which of them a book calls for.
use Rattle.std.specs.Prelude.{◌≡◌, ℕ, ◌↔◌, List, [], ◌∷◌, map, take, Some, None, Option}
use Rattle.access.specs.Refusals.{refusal_number}
use Rattle.access.specs.declared.refusal.Refusal.{Refusal}
use Rattle.verdicts.specs.Verdicts.{Step, Guaranteed as Holds}
use Rattle.verdicts.specs.First.{BrokenBy}
use Rattle.judge.specs.Moved.{stepped}
use Rattle.access.specs.declared.property.Property.{Property}
use Rattle.judge.specs.Judged.{property_of}
use Rattle.sheet.specs.Book.{Book, refusal, fed}
use Rattle.sheet.specs.Judging.{standing_grants}
use Rattle.sheet.specs.declared.request.Request.{Request}
use Rattle.sheet.specs.declared.request.Request.TheVariants.{Judge, AskSettings, AskContexts, AskCapacity, AskWritten, AskPermitted}
use Rattle.replay.specs.declared.answer.Answer.{Answer}
use Rattle.replay.specs.declared.answer.Answer.TheVariants.{Accepted, Refused, Guaranteed, Broken, Number, Operations}

-- an answer in numbers and values: a refusal is told by its number, a broken property by its steps
pub data Reply : Type 0 where
  accepted : Reply
  refused : ℕ → Reply
  guaranteed : Reply
  broken : List Step → Reply
  number : ℕ → Reply
  operations : ℕ → Reply

-- what an answer means
abbrev pub reply_of : Answer → Reply
reply_of Accepted = accepted
reply_of (Refused why) = refused (refusal_number why)
reply_of Guaranteed = guaranteed
reply_of (Broken shown) = broken (map stepped (take shown.count shown.steps))
reply_of (Number x) = number x
reply_of (Operations set) = operations set.bits

-- the reply shows the verdict: no legal run, of any length, realises an activity that the property forbids, or the steps show the
-- first of the shortest that one realises
abbrev pub Shows : Book → Property → Reply → Type 0
Shows b p guaranteed = Holds b.policy (standing_grants b) (property_of p)
Shows b p (broken steps) = BrokenBy b.policy (standing_grants b) (property_of p) steps
Shows b p _ = ⊥

-- the reply is the verdict on the property that stands, and it is guaranteed exactly where the property is
abbrev pub Verdict : Book → Option Property → Reply → Type 0
Verdict b None r = ⊥
Verdict b (Some p) r = Shows b p r × ((r ≡ guaranteed) ↔ Holds b.policy (standing_grants b) (property_of p))

-- what a request is replied that is accepted: a judging by the verdict, a question by its answer, any other by `accepted`
abbrev pub Tells : Book → Request → Reply → Type 0
Tells b (Judge k ticks places steps) r = Verdict b (b.properties k) r
Tells b AskSettings r = r ≡ number b.settings
Tells b AskContexts r = r ≡ number b.policy.contexts
Tells b AskCapacity r = r ≡ number b.policy.capacity
Tells b (AskWritten s t) r = r ≡ operations (b.policy.written s t)
Tells b (AskPermitted s t) r = r ≡ operations (b.policy.permitted s t)
Tells b _ r = r ≡ accepted

-- the reply to a request that is refused, or accepted
abbrev pub RightWhere : Option Refusal → Book → Request → Reply → Type 0
RightWhere (Some why) b q r = r ≡ refused (refusal_number why)
RightWhere None b q r = Tells b q r

-- the reply to a request is the book's
abbrev pub Right : Book → Request → Reply → Type 0
Right b q r = RightWhere (refusal b q) b q r

-- the replies to requests one after another: each is that of the book fed with the requests before it
pub data Replies : Book → List Request → List Reply → Type 0 where
  none : {b : Book} → Replies b [] []
  next : {b : Book} {q : Request} {r : Reply} {qs : List Request} {rs : List Reply} → Right b q r → Replies (fed b q) qs rs → Replies b (q ∷ qs) (r ∷ rs)

-- what requests are replied depends on the book and on them alone: whoever serves them by the book replies the same
abbrev pub SameReplies : Type 0
SameReplies = (b : Book) (qs : List Request) (rs ts : List Reply) → Replies b qs rs → Replies b qs ts → rs ≡ ts
