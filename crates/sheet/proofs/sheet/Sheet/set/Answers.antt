use Rattle.std.proofs.Common.{◌≡◌, true, ◌∙◌, ap, refl, sym, subst, rules}
use Rattle.access.specs.Policy.{Meaning}
use Rattle.sheet.specs.Undo.{change_undoable}
use Rattle.sheet.proofs.Fitness.{as_many, after_set}
use Rattle.sheet.proofs.Kept.{same_sheet, if_refused}
use Rattle.sheet.proofs.MakingLaws.{one_noted, undoable_set, noted_set}
use Rattle.sheet.proofs.sheet.Sheet.set.Goals as goal

pub invariant_of-self : goal.invariant_of-self
invariant_of-self g c =
    let old = c.args.self.now in
    let same = ap g.P.Policy.meaning c.in_err-set.ensures.kept in
    record {
      undoable = subst (λ (m : Meaning). change_undoable old.change m ≡ true) (sym same) old.undoable;
      fit = as_many _ _ _ (ap (λ x. x.contexts) same) old.fit;
    }

pub invariant_of-self-in-Some : goal.invariant_of-self-in-Some
invariant_of-self-in-Some g c =
    let old = c.args.self.now in
    let m = g.P.Policy.meaning old.policy in
    record {
      undoable = undoable_set m (g.P.Policy.meaning c.set.new.self) c.args.subject c.args.target c.args.operations c.written-before.result old.change c.in-Some.notes c.add.new.self
          c.in_ok-set.ensures.told c.in_ok-set.ensures.done c.in-Some.is c.written-before.ensures (one_noted _ c.in-Some.notes (search rules) c.add.ensures) (g.met.P.Policy.sound old.policy) old.undoable;
      fit = as_many m.contexts (g.P.Policy.meaning c.set.new.self).contexts _ (ap (λ x. x.contexts) c.in_ok-set.ensures.done ∙ after_set m c.args.subject c.args.target c.args.operations.bits) old.fit;
    }

pub returns-in-Some-clause-done : goal.returns-in-Some-clause-done
returns-in-Some-clause-done g c =
    let old = c.args.self.now in
    noted_set (g.P.Policy.meaning old.policy) (g.P.Policy.meaning c.set.new.self) c.args.subject c.args.target c.args.operations c.written-before.result old.change c.in-Some.notes c.add.new.self
    c.in_ok-set.ensures.told c.in_ok-set.ensures.done c.in-Some.is c.written-before.ensures (one_noted _ c.in-Some.notes (search rules) c.add.ensures) old.settings c.saturating_add-self.result _ _ c.if-is_full.ensures c.saturating_add-self.ensures

pub returns-in_err-set-clause-kept : goal.returns-in_err-set-clause-kept
returns-in_err-set-clause-kept g c = if_refused c.from_residual-in_err-set.result (same_sheet _ c.args.self.now c.in_err-set.ensures.kept refl refl refl refl)
