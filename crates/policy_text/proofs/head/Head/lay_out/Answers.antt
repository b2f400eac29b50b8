use Rattle.std.proofs.Common.{◌≡◌, min, max, length, arith, ap, ◌∙◌}
use Rattle.record_table.specs.TableMeaning.{empty_table}
use Rattle.layers.specs.Labels.{label_of}
use Rattle.layers.specs.Layers.{with_levels, with_owners}
use Rattle.sheet.specs.Book.{start}
use Rattle.policy_text.proofs.head.Head.lay_out.Goals as goal

pub returns : goal.returns
returns c = λ some.
    let head = c.args.self.now in
    let count : min (max c.count.result 1) 256 ≡ length head.names = omega arith in
    let table = c.new-table.ensures ∙ ap empty_table count in
    let owned = c.new-owned.ensures.meaning ∙ ap (λ m. with_owners m (label_of head.owners) head.constrained.bits) table in
    let piled = c.new.ensures.meaning ∙ ap (λ m. with_levels m (label_of head.levels)) owned in
    c.lay_out.ensures ∙ ap start piled
