use Rattle.sheet.proofs.WithdrawalLaw.{withdrawal_restores}
use Rattle.sheet.proofs.laws.withdrawal_stands.Goals as goal

pub returns : goal.returns
returns c = withdrawal_restores
