use Rattle.scale.proofs.Bitwise.{lanes_all}
use Rattle.scale.proofs.lanes.scale.LanesScale.yes.Goals as goal

pub returns : goal.returns
returns c = record { is_yes = lanes_all }
