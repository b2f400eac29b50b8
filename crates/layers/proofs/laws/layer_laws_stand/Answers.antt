use Rattle.layers.proofs.LayerLeaves.{level_leaves, owner_leaves}
use Rattle.layers.proofs.laws.layer_laws_stand.Goals as goal

pub returns : goal.returns
returns c = record { levels = level_leaves; owners = owner_leaves }
