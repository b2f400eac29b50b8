use Rattle.std.proofs.Common.{◌≡◌, T, subst, eqb→eq, ⊎_elim, rules}
use Rattle.std.proofs.lemmas.Bool.{cases_Bool}
use Rattle.access.specs.Contexts.{both_inside}
use Rattle.verdicts.specs.Possible.{granted}
use Rattle.judge.specs.Regimes.{grants_of}
use Rattle.judge.proofs.Outlined.{nothing_added, none_permitted}
use Rattle.judge.proofs.outline.Outlined.on_pair.Goals as goal

pub returns-then-is_empty-clause-possible : goal.returns-then-is_empty-clause-possible
returns-then-is_empty-clause-possible g c =
    let p = c.args.self.now.regime.now.policy.now in
    let m = g.P.Policy.meaning p in
    let gs = grants_of c.args.self.now.regime.now in
    let s = c.args.s in
    let t = c.args.t in
    let zero : c.and.result.bits ≡ 0 = eqb→eq _ 0 (subst T c.if-is_empty.ensures tt) in
    ⊎_elim
    (λ inside. let same = nothing_added (m.permitted s t) (m.written s t) c.at_most.result.bits (granted gs s t) (c.at_most.ensures inside) cc in search rules)
    (λ outside. let same = none_permitted (m.permitted s t) (m.written s t) (granted gs s t) ((g.met.P.Policy.sound p).permitted_inside s t outside) in search rules)
    (cases_Bool (both_inside m.contexts s t))
