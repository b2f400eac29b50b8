-- What the code's regimes mean.
use Rattle.access.specs.Policy.{Meaning}
use Rattle.verdicts.specs.Runs.{Grants}
use Rattle.judge.specs.Grants.{standing}
use Rattle.judge.specs.declared.regime.Regime.{Regime}

-- the meaning of its policy
abbrev pub meaning_of : {P : Type 0} → (P → Meaning) → Regime P → Meaning
meaning_of meaning r = meaning r.policy.now

-- the grants that stand
abbrev pub grants_of : {P : Type 0} → Regime P → Grants
grants_of r = standing r.grants.now 0
