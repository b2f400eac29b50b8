use Rattle.std.proofs.Common.{ℕ, ◌-◌, arith}
use Rattle.std.proofs.lemmas.Bool.Decides.{nat_tests}
use Rattle.std.proofs.lemmas.List.{get_or-replicate}
use Rattle.layers.proofs.labels.Labels.zero.Goals as goal

pub returns : goal.returns
returns c = λ d. grind (arith, nat_tests, get_or-replicate {A = ℕ} 256 (d - 1) 0 0)
