use Rattle.std.proofs.Common.{◌≡◌, ℕ, true, not, ◌&&◌, eqb, rules, subst}
use lib.Bits.{bit_and}
use Rattle.judge.specs.Regimes.{grants_of}
use Rattle.access.specs.Operations.{become_like, read_like, write_like}
use Rattle.access.specs.Contexts.{inside}
use Rattle.access.specs.declared.context_set.ContextSet.{ContextSet}
use Rattle.verdicts.specs.Possible.{possible}
use Rattle.judge.specs.Contextual.{value_of, IsSetOf}
use Rattle.judge.specs.Done.{allowed}
use Rattle.judge.proofs.Worked.{possible_outside, allowed_outside, set_of_kinds, set_of_any}
use Rattle.judge.proofs.outline.Outlined.doings.Goals as goal

pub returns : goal.returns
returns g c =
    let m = g.P.Policy.meaning c.args.self.now.regime.now.policy.now in
    let gs = grants_of c.args.self.now.regime.now in
    let l = g.met.P.Policy.sound c.args.self.now.regime.now.policy.now in
    let s = c.args.s in
    let n = c.contexts-n.result in
    let could : ℕ → ℕ = (λ t. (value_of c.of-pairs.result t).possible.bits) in
    let may : ℕ → ℕ = (λ t. (value_of c.of-pairs.result t).allowed.bits) in
    let could_is : (t : ℕ) → inside m.contexts t ≡ true → could t ≡ possible m gs s t = (λ t e. let given = c.of-pairs.ensures.given t in search rules) in
    let may_is : (t : ℕ) → inside m.contexts t ≡ true → may t ≡ allowed m s t = (λ t e. let given = c.of-pairs.ensures.given t in search rules) in
    let told = (λ (bits : ℕ → ℕ) (set : ContextSet) (among : ℕ) (is : IsSetOf (λ t. inside n t && not (eqb (bit_and among (bits t)) 0)) set). subst (λ n. IsSetOf (λ t. inside n t && not (eqb (bit_and among (bits t)) 0)) set) c.contexts-n.ensures is) in
    let of_kinds = set_of_kinds m gs l (possible m gs) (possible_outside m gs l) s could could_is in
    record {
      becoming = of_kinds c.possible.result c.transition.result.bits (told could _ _ c.possible.ensures) become_like (λ e. e) c.transition.ensures;
      writing = of_kinds c.possible-2.result c.write_like.result.bits (told could _ _ c.possible-2.ensures) write_like (λ e. e) c.write_like.ensures;
      reading = of_kinds c.possible-3.result c.read_like.result.bits (told could _ _ c.possible-3.ensures) read_like (λ e. e) c.read_like.ensures;
      reading_alone = set_of_kinds m gs l (allowed m) (allowed_outside m gs l) s may may_is c.allowed.result c.read_like-2.result.bits (told may _ _ c.allowed.ensures) read_like (λ e. e) c.read_like-2.ensures;
      doing = set_of_any m gs l s could could_is c.possible-4.result c.all.result.bits (told could _ _ c.possible-4.ensures) c.all.ensures;
    }
