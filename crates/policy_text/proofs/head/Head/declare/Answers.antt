use Rattle.std.proofs.Common.{rules, sym, ap, ◌∙◌, Ok, length, ◌+◌}
use Rattle.words.specs.Left.{seen}
use Rattle.policy_text.specs.Shown.{reading}
use Rattle.policy_text.proofs.Labels.{labelled}
use Rattle.policy_text.proofs.Declaring.{new_name, new_number, declared_is, level_flaw, with_context_is}
use Rattle.policy_text.proofs.head.Head.declare.Goals as goal

pub returns-in_err-level : goal.returns-in_err-level
returns-in_err-level c = λ calls room.
    let names = c.args.self.now.names in
    let e = new_name names (seen c.args.new) (length names + 1) c.in_ok-context.context (sym c.in_ok-context.was ∙ c.name_next.ensures.told room) in
    let f = level_flaw (reading c.args.self.now calls) (seen c.args.new) (seen c.args.level) (seen c.args.owner) c.args.new.bytes.now c.in_err-level.field-0.0 e (sym c.in_err-level.was ∙ c.label.ensures.told) in
    search (rules, f)

pub returns : goal.returns
returns c = λ calls room.
    let head = c.args.self.now in
    let told = sym c.in_ok-context.was ∙ c.name_next.ensures.told room in
    let e = new_name head.names (seen c.args.new) (length head.names + 1) c.in_ok-context.context told in
    let k = new_number head.names (seen c.args.new) (length head.names + 1) c.in_ok-context.context told in
    let made = declared_is (reading head calls) (seen c.args.new) (seen c.args.level) (seen c.args.owner) c.args.new.bytes.now c.in_ok-level.level c.in_ok-owner.owner e (sym c.in_ok-level.was ∙ c.label.ensures.told) (sym c.in_ok-owner.was ∙ c.label-2.ensures.told) in
    let level = labelled head.levels c.with-self.result c.in_ok-context.context (length head.names) c.in_ok-level.level k room c.in_ok-level.ensures.small c.with-self.ensures in
    let owner = labelled head.owners c.with-self-2.result c.in_ok-context.context (length head.names) c.in_ok-owner.owner k room c.in_ok-owner.ensures.small c.with-self-2.ensures in
    sym (made ∙ ap Ok (sym (with_context_is (reading head calls) c.args.new.bytes.now c.in_ok-level.level c.in_ok-owner.owner _ _ _ c.in_ok-context.ensures.done level owner)))
