-- Whoever serves requests replies the same.
use Rattle.std.proofs.Common.{◌≡◌, ℕ, List, [], ◌∷◌, Some, None, Option, sym, refl, ap, ap₂, ◌∙◌, arith}
use Rattle.access.specs.declared.refusal.Refusal.{Refusal}
use Rattle.verdicts.specs.Verdicts.{Step}
use Rattle.verdicts.proofs.First.{one_first}
use Rattle.access.specs.declared.property.Property.{Property}
use Rattle.sheet.specs.Book.{Book, refusal, fed}
use Rattle.sheet.specs.Judging.{standing_grants}
use Rattle.sheet.specs.declared.request.Request.{Request}
use Rattle.sheet.specs.declared.request.Request.TheVariants.{Set, EnterGrant, StrikeGrant, EnterProperty, StrikeProperty, Open, Adopt, Withdraw, Judge, AskSettings, AskContexts, AskCapacity, AskWritten, AskPermitted}
use Rattle.replay.specs.Replies.{Reply, accepted, refused, guaranteed, broken, number, operations, Verdict, Tells, RightWhere, Replies, none, next, SameReplies}

apart : {X : Type 0} (ss : List Step) → broken ss ≡ guaranteed → X
apart ss e = let z : ◌≡◌ {A = ℕ} 0 1 = cc in absurd (omega arith)

module _ (b : Book) where
  one_verdict : (o : Option Property) (r s : Reply) → Verdict b o r → Verdict b o s → r ≡ s
  one_verdict None r s x y = absurd x
  one_verdict (Some p) guaranteed guaranteed x y = refl
  one_verdict (Some p) guaranteed (broken ss) x y = apart ss (y.1.1 x.0)
  one_verdict (Some p) (broken rr) guaranteed x y = apart rr (x.1.1 y.0)
  one_verdict (Some p) (broken rr) (broken ss) x y = ap broken (one_first b.policy (standing_grants b) x.0 y.0)
  one_verdict (Some p) guaranteed accepted x y = absurd y.0
  one_verdict (Some p) guaranteed (refused a) x y = absurd y.0
  one_verdict (Some p) guaranteed (number a) x y = absurd y.0
  one_verdict (Some p) guaranteed (operations a) x y = absurd y.0
  one_verdict (Some p) (broken rr) accepted x y = absurd y.0
  one_verdict (Some p) (broken rr) (refused a) x y = absurd y.0
  one_verdict (Some p) (broken rr) (number a) x y = absurd y.0
  one_verdict (Some p) (broken rr) (operations a) x y = absurd y.0
  one_verdict (Some p) accepted s x y = absurd x.0
  one_verdict (Some p) (refused a) s x y = absurd x.0
  one_verdict (Some p) (number a) s x y = absurd x.0
  one_verdict (Some p) (operations a) s x y = absurd x.0

  one_told : (q : Request) (r s : Reply) → Tells b q r → Tells b q s → r ≡ s
  one_told (Set i t ops) r s x y = x ∙ sym y
  one_told (EnterGrant k g) r s x y = x ∙ sym y
  one_told (StrikeGrant k) r s x y = x ∙ sym y
  one_told (EnterProperty k p) r s x y = x ∙ sym y
  one_told (StrikeProperty k) r s x y = x ∙ sym y
  one_told Open r s x y = x ∙ sym y
  one_told Adopt r s x y = x ∙ sym y
  one_told Withdraw r s x y = x ∙ sym y
  one_told (Judge k ticks places steps) r s x y = one_verdict (b.properties k) r s x y
  one_told AskSettings r s x y = x ∙ sym y
  one_told AskContexts r s x y = x ∙ sym y
  one_told AskCapacity r s x y = x ∙ sym y
  one_told (AskWritten i t) r s x y = x ∙ sym y
  one_told (AskPermitted i t) r s x y = x ∙ sym y

  one_right : (o : Option Refusal) (q : Request) (r s : Reply) → RightWhere o b q r → RightWhere o b q s → r ≡ s
  one_right (Some why) q r s x y = x ∙ sym y
  one_right None q r s x y = one_told q r s x y

same_from : (qs : List Request) (b : Book) (rs ts : List Reply) → Replies b qs rs → Replies b qs ts → rs ≡ ts
same_from [] b [] [] none none = refl
same_from [] b [] (s ∷ ts) x y = elim y [ ]
same_from [] b (r ∷ rs) ts x y = elim x [ ]
same_from (q ∷ qs) b [] ts x y = elim x [ ]
same_from (q ∷ qs) b (r ∷ rs) [] x y = elim y [ ]
same_from (q ∷ qs) b (r ∷ rs) (s ∷ ts) (next x xs) (next y ys) = ap₂ (λ z zs. z ∷ zs) (one_right b (refusal b q) q r s x y) (same_from qs (fed b q) rs ts xs ys)

pub same_replies : SameReplies
same_replies b qs rs ts = same_from qs b rs ts
