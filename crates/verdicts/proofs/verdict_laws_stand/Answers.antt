use Rattle.verdicts.proofs.verdict_laws_stand.Goals as goal
use Rattle.verdicts.proofs.Judged.{verdict_laws}

pub returns : goal.returns
returns c = verdict_laws
