use borrow.Author.Tests.{tests}
use Rattle.std.proofs.Common.{rules, ◌&&◌, ◌==◌, ap, ◌∙◌}
use Rattle.std.specs.List.{list_any}
use Rattle.std.proofs.lemmas.Iterator.Consumers.{YieldsList-end}
use Rattle.std.proofs.lemmas.Iterator.Splits.{YieldsList-from_slice_split}
use Rattle.access.specs.Contexts.{inside}
use Rattle.words.specs.Parts.{parts}
use Rattle.words.specs.Contexts.{is_called}
use Rattle.words.proofs.set.members.Goals as goal

pub returns : goal.returns
returns c =
    let whole = YieldsList-end (YieldsList-from_slice_split {s = c.into_iter-name-iterator.result} _ (λ b. b == 44) {f = c.split-name-items.result.pred} c.args.word.now (cc) (cc) (cc) (λ x r q k. search (rules, tests))) c.loop-name.yielded _ c.loop-name.yielded_by _ _ c.in-None.is c.next.ensures.steps in
    c.is_its_members.ensures (λ k. list_any (is_called c.args.names.now k) (parts 44 c.args.word.now)) (λ k. c.loop-name.invariant k ∙ ap (λ ws. inside 256 k && list_any (is_called c.args.names.now k) ws) whole.0)
