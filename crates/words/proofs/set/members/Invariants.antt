use Rattle.std.proofs.Common.{◌≡◌, ℕ, ◌&&◌, map}
use Rattle.std.specs.List.{list_any}
use Rattle.access.specs.Contexts.{inside, member}
use Rattle.words.specs.Contexts.{is_called}
use Rattle.words.proofs.set.members.Given as goal

abbrev pub invariant-loop-name : goal.invariant-loop-name
invariant-loop-name l = (c : ℕ) → member l.set c ≡ (inside 256 c && list_any (is_called l.names c) (map (λ x. x.now) l.yielded))
