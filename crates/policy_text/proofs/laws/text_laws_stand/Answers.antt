use Rattle.policy_text.proofs.Parted.{parted, columned}
use Rattle.policy_text.proofs.laws.text_laws_stand.Goals as goal

pub returns : goal.returns
returns c = record { parts = parted; columns = columned }
