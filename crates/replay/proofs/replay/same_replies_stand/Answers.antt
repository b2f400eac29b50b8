use Rattle.replay.proofs.replay.same_replies_stand.Goals as goal
use Rattle.replay.proofs.Same.{same_replies}

pub returns : goal.returns
returns c = same_replies
