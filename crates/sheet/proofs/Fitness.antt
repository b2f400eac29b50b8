-- Properties that are entered and struck stay fit.
use Rattle.std.proofs.Common.{◌≡◌, ℕ, Bool, true, false, eqb, List, [], ◌∷◌, cond, Some, None, Ok, Option, sym, refl, subst, arith}
use Rattle.std.specs.Option.{option_or}
use Rattle.std.proofs.lemmas.Bool.{cond_both}
use Rattle.access.specs.Contexts.{inside}
use Rattle.access.specs.Policy.{Meaning}
use Rattle.access.specs.Refusals.{answer, when_accepted}
use Rattle.access.specs.Setting.{setting_refusal, with_set, after_setting}
use Rattle.access.specs.declared.refusal.Refusal.{Refusal}
use Rattle.access.proofs.Settings.{answer_ok}
use Rattle.sheet.specs.Entries.{Entries, put, put_within}
use Rattle.sheet.specs.Standing.{entering_refusal}
use Rattle.access.specs.Fitness.{property_refusal}
use Rattle.access.specs.declared.property.Property.{Property}
use Rattle.sheet.specs.Book.{Book, refusal}
use Rattle.sheet.specs.Judging.{AllFit}
use Rattle.sheet.specs.Undo.{undone, undo}
use Rattle.sheet.specs.declared.note.Note.{Note}
use Rattle.sheet.specs.declared.request.Request.TheVariants.{EnterProperty}

-- as long as there are as many contexts
pub as_many : (n n' : ℕ) (f : Entries Property) → n' ≡ n → AllFit n f → AllFit n' f
as_many n n' f same fit = subst (λ x. AllFit x f) (sym same) fit

pub after_set : (m : Meaning) (s t ops : ℕ) → (after_setting m s t ops).contexts ≡ m.contexts
after_set m s t ops = go (setting_refusal m s t ops)
  where
    go : (o : Option Refusal) → (when_accepted o (with_set m s t ops) m).contexts ≡ m.contexts
    go None = refl
    go (Some why) = refl

pub after_undo : (xs : List Note) (m : Meaning) → (undo xs m).contexts ≡ m.contexts
after_undo [] m = refl
after_undo (x ∷ xs) m = after_undo xs (undone m x)

-- nothing, or a property that is fit
abbrev Fit : ℕ → Option Property → Type 0
Fit n o = (p : Property) → o ≡ Some p → property_refusal n p ≡ None

-- an entry replaced by a fit one
fit_put : (n : ℕ) (f : Entries Property) (k : ℕ) (e : Option Property) → AllFit n f → Fit n e → AllFit n (put f k e)
fit_put n f k e all one j = cond_both (eqb j k) e (f j) (Fit n) (λ _. one) (λ _. all j)

-- a property is struck, or not
pub struck : (n : ℕ) (f g : Entries Property) (k : ℕ) (o : Option Refusal) → g ≡ when_accepted o (put f k None) f → AllFit n f → AllFit n g
struck n f g k o is all = subst (AllFit n) (sym is) (go o)
  where
    go : (o : Option Refusal) → AllFit n (when_accepted o (put f k None) f)
    go None = fit_put n f k None all (λ p e. absurd (grind arith))
    go (Some why) = all

-- a property that may be entered is fit
fit_entry : (b : Book) (k : ℕ) (p : Property) → refusal b (EnterProperty k p) ≡ None → Fit b.policy.contexts (Some p)
fit_entry b k p e q is = go (entering_refusal 64 b.properties k) e
  where
    go : (o : Option Refusal) → option_or o (property_refusal b.policy.contexts p) ≡ None → property_refusal b.policy.contexts q ≡ None
    go None e = let same : p ≡ q = cc in subst (λ x. property_refusal b.policy.contexts x ≡ None) same e
    go (Some why) e = absurd (grind arith)

pub entered : (b : Book) (g : Entries Property) (k : ℕ) (p : Property) → Ok tt ≡ answer (refusal b (EnterProperty k p)) → g ≡ put_within 64 b.properties k (Some p) → AllFit b.policy.contexts b.properties → AllFit b.policy.contexts g
entered b g k p told is all = subst (AllFit b.policy.contexts) (sym is) (λ j. go (inside 64 k) j)
  where
    go : (r : Bool) (j : ℕ) → Fit b.policy.contexts (cond r (put b.properties k (Some p)) b.properties j)
    go true = fit_put b.policy.contexts b.properties k (Some p) all (fit_entry b k p (answer_ok _ told))
    go false = all
