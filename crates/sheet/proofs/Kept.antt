-- A call that is refused leaves the sheet itself as it was.
use Rattle.std.proofs.Common.{◌≡◌, true, false, is_some, Some, None, Ok, Err, Option, Result, OnErr, refl}
use Rattle.access.proofs.Tests.{differ}
use mathlib.Core.Bool.{Bool-set}
use Rattle.std.proofs.Props.{props}
use mathlib.Core.HLevel.{is_prop→PathP}
use Rattle.sheet.specs.Undo.{change_undoable}
use Rattle.sheet.specs.Judging.{AllFit}
use Rattle.sheet.specs.Held.{held}
use Rattle.sheet.specs.declared.sheet.Sheet.{Sheet}

-- sheets with the same fields are the same
pub same_sheet : {P : Type 0} {policy : _} (s t : Sheet P policy) → s.policy ≡ t.policy → s.settings ≡ t.settings → s.grants ≡ t.grants → s.properties ≡ t.properties → s.change ≡ t.change → s ≡ t
same_sheet {P} {policy} s t p n g q c = λ i. record {
  policy = p i;
  settings = n i;
  grants = g i;
  properties = q i;
  change = c i;
  undoable = is_prop→PathP (λ j. change_undoable (c j) (policy.meaning (p j)) ≡ true) (λ j. Bool-set _ _) s.undoable t.undoable i;
  fit = is_prop→PathP (λ j. AllFit (policy.meaning (p j)).contexts (held (q j))) (λ j. hlevel props) s.fit t.fit i;
}

-- what follows where a call is refused
pub on_err : {X Y A B : Type 0} (r : Result X Y) → (A → B) → OnErr r A → OnErr r B
on_err (Ok x) f h = h
on_err (Err e) f h = f h

-- nothing is there where something is not
pub is_none : {X : Type 0} (o : Option X) → is_some o ≡ false → o ≡ None
is_none None e = refl
is_none (Some x) e = differ e

-- what holds, holds where a call is refused
pub if_refused : {X Y A : Type 0} (r : Result X Y) → A → OnErr r A
if_refused (Ok x) a = tt
if_refused (Err e) a = a
