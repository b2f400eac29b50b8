use Rattle.worked_cases.proofs.worked_cases_stand.Goals as goal
use Rattle.worked_cases.proofs.Controller.{worked_cases}

pub returns : goal.returns
returns c = worked_cases
