use Rattle.std.proofs.Common.{◌≡◌, ◌-◌, ◌≤◌, Bool}
use Rattle.record_table.specs.declared.chains.Record.{Record}
use Rattle.record_table.specs.Chains.{first_that, numbered}
use Rattle.record_table.proofs.chains.Chains.find.Given as goal

abbrev pub invariant-loop : goal.invariant-loop
invariant-loop g l =
    (l.number ≤ 1024)
    × ((p : Record → Bool) → ((r : Record) (b : Bool) → goal.F-post g l.test r b → b ≡ p r)
    → first_that (1024 - l.counter) p (numbered l.self.slots) l.number ≡ first_that 1024 p (numbered l.self.slots) l.first)
