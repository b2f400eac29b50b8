use Rattle.std.proofs.Common.{rules, ◌≢◌, ◌∙◌, arith, get_or-set_other}
use Rattle.record_table.specs.Chains.{blank}
use Rattle.record_table.proofs.chains.Chains.all_unused.Goals as goal

pub returns-clause-links : goal.returns-clause-links
returns-clause-links c = λ k low.
    let made = (c.from_fn-slots.ensures.items.at k blank (omega arith)).2 in
    let ne : k ≢ 1023 = omega arith in
    get_or-set_other c.from_fn-slots.result 1023 k _ blank ne ∙ search rules
