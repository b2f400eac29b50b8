use Rattle.std.proofs.Common.{◌≡◌, min, max, ap, ◌∙◌, rules}
use mathlib.Core.Path.{fun_ext}
use Rattle.access.specs.Policy.{Matrix, with_written}
use Rattle.record_table.specs.TableMeaning.{empty_table}
use Rattle.record_table.proofs.Fresh.{fresh_arrays, fresh_laid, fresh_written}
use Rattle.record_table.proofs.table.RecordTable.new.Goals as goal

pub invariant_of-result : goal.invariant_of-result
invariant_of-result c =
    let e = c.all_unused.ensures in
    let n = c.clamp.result in
    let a = fresh_arrays n c.all_unused.result e.heads e.all e.links e.last in
    record { sizes = (search rules, search rules, a.heads_size, a.slots_size); firsts = a.firsts; links = a.links; laid = ∣ fresh_laid n c.all_unused.result e.heads e.all e.links e.last ∣₁ }

pub returns : goal.returns
returns c =
    let e = c.all_unused.ensures in
    let n = c.clamp.result in
    let n_is : n ≡ min (max c.args.wished 1) 256 = search rules in
    let none = fresh_written n c.all_unused.result e.heads e.all e.links e.last in
    ap (λ (w : Matrix). with_written (empty_table n) w) (fun_ext (λ s. fun_ext (λ t. none s t))) ∙ ap empty_table n_is
