use Rattle.std.proofs.Common.{◌≡◌, sym, ap, length, ◌==◌, true, false, arith}
use Rattle.std.proofs.lemmas.Bool.Decides.{nat_tests}
use Rattle.policy_text.specs.Reading.{Reading, no_context}
use Rattle.policy_text.proofs.Reading.{ended_well}
use Rattle.policy_text.proofs.reader.Reader.end.Goals as goal

pub returns : goal.returns
returns c = λ p holds.
    let names : length p.names ≡ length c.args.self.head.names = ap (λ (x : Reading). length x.names) holds.says in
    let some : no_context p ≡ false = grind (arith, nat_tests) in
    let none : (length c.args.rest.now == 0) ≡ true = grind (arith, nat_tests) in
    let o = c.open.ensures p holds some in
    rw (ended_well p c.args.rest.now none some) (record { names = ap (λ (x : Reading). x.names) (sym o.says); shows = o.shows })
