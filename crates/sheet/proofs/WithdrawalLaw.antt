-- Every written set is as it stood at the opening.
use Rattle.std.proofs.Common.{◌≡◌, ℕ, ◌+◌, true, List, [], ◌∷◌, is_some, Some, None, Option, sym, refl, ap, arith}
use Rattle.std.proofs.lemmas.Bool.{and_parts}
use Rattle.access.specs.Policy.{Matrix}
use Rattle.access.specs.Refusals.{when_accepted}
use Rattle.access.specs.declared.refusal.Refusal.{Refusal}
use Rattle.access.proofs.Tests.{differ}
use Rattle.sheet.specs.Book.{Opened, Book, refusal, accepted, fed, fed_all, one_more}
use Rattle.sheet.specs.Withdrawal.{undeciding, all_undeciding, WithdrawalRestores}
use Rattle.sheet.specs.declared.request.Request.{Request}
use Rattle.access.specs.declared.refusal.Refusal.TheVariants.{OpenAlready}
use Rattle.sheet.proofs.Accepted.{after}
use Rattle.sheet.specs.declared.request.Request.TheVariants.{Set, EnterGrant, StrikeGrant, EnterProperty, StrikeProperty, Open, Adopt, Withdraw, Judge, AskSettings, AskContexts, AskCapacity, AskWritten, AskPermitted}

-- a change is open, and its copy is w
record Copies (w : Matrix) (c : Option Opened) : Type 0 where
  what : Opened
  is : c ≡ Some what
  copies : what.copy ≡ w

-- one call that decides nothing keeps the copy
step : (w : Matrix) (b : Book) (q : Request) → undeciding q ≡ true → Copies w b.change → Copies w (fed b q).change
step w b q u k = after (λ x. Copies w x.change) b q (new q u) k
  where
    new : (q : Request) → undeciding q ≡ true → refusal b q ≡ None → Copies w (accepted b q).change
    new (Set s t ops) u e = record { what = record { copy = k.what.copy; notes = k.what.notes + 1 }; is = ap one_more k.is; copies = k.copies }
    new (EnterGrant n g) u e = k
    new (StrikeGrant n) u e = k
    new (EnterProperty n p) u e = k
    new (StrikeProperty n) u e = k
    new Open u e = let is = k.is in let h : is_some b.change ≡ true = rw is refl in let z : refusal b Open ≡ Some OpenAlready = rw h refl in absurd (grind arith)
    new Adopt u e = differ (sym u)
    new Withdraw u e = differ (sym u)
    new (Judge n ts ps ss) u e = k
    new AskSettings u e = k
    new AskContexts u e = k
    new AskCapacity u e = k
    new (AskWritten s t) u e = k
    new (AskPermitted s t) u e = k

-- so do all of them
steps : (w : Matrix) (b : Book) (qs : List Request) → all_undeciding qs ≡ true → Copies w b.change → Copies w (fed_all b qs).change
steps w b [] u k = k
steps w b (q ∷ qs) u k = let p = and_parts (undeciding q) (all_undeciding qs) u in steps w (fed b q) qs p.1 (step w b q p.0 k)

-- withdrawing puts the copy back
end : (w : Matrix) (b : Book) → Copies w b.change → (refusal b Withdraw ≡ None) × ((s t : ℕ) → (fed b Withdraw).policy.written s t ≡ w s t)
end w b k = rw k.is (refl, λ s t. ap (λ (v : Matrix). v s t) k.copies)

-- opening copies the written sets
at_opening : (b : Book) → refusal b Open ≡ None → Copies b.policy.written (fed b Open).change
at_opening b r =
    let c : Option Opened = (fed b Open).change in
    record {
      what = record { copy = b.policy.written; notes = 0 };
      is = ap (λ (o : Option Refusal). (when_accepted o (accepted b Open) b).change) r;
      copies = refl;
    }

pub withdrawal_restores : WithdrawalRestores
withdrawal_restores b qs r u = end b.policy.written (fed_all (fed b Open) qs) (steps b.policy.written (fed b Open) qs u (at_opening b r))
