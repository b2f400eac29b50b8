use Rattle.std.proofs.Common.{rules}
use Rattle.access.specs.Operations.{become_like, read_like, write_like}
use Rattle.judge.specs.Regimes.{grants_of}
use Rattle.judge.proofs.Selected.{shown_kinds, shown_any, shown_transfer}
use Rattle.judge.proofs.regime.Regime.show.Goals as goal

pub returns-in-Transition : goal.returns-in-Transition
returns-in-Transition g c =
    let m = g.P.Policy.meaning c.args.self.now.policy.now in
    let shown = shown_kinds m (grants_of c.args.self.now) become_like (λ e. e) _ _ c.transition.result.bits c.transition.ensures c.lowest.result c.lowest.ensures in
    search rules

pub returns-in-Transfer : goal.returns-in-Transfer
returns-in-Transfer g c =
    let m = g.P.Policy.meaning c.args.self.now.policy.now in
    let gs = grants_of c.args.self.now in
    let given = shown_kinds m gs write_like (λ e. e) _ _ c.write_like.result.bits c.write_like.ensures c.lowest-given.result c.lowest-given.ensures in
    let taken = shown_kinds m gs read_like (λ e. e) _ _ c.read_like.result.bits c.read_like.ensures c.lowest-taken.result c.lowest-taken.ensures in
    let shown = shown_transfer m gs _ _ c.lowest-given.result c.lowest-taken.result given taken in
    search rules

pub returns-in-Contact : goal.returns-in-Contact
returns-in-Contact g c =
    let m = g.P.Policy.meaning c.args.self.now.policy.now in
    let shown = shown_any m (grants_of c.args.self.now) (g.met.P.Policy.sound c.args.self.now.policy.now) _ _ c.all.result.bits c.all.ensures c.lowest-in-Contact.result c.lowest-in-Contact.ensures in
    search rules
