use Rattle.scale.proofs.Bitwise.{lanes_or}
use Rattle.scale.proofs.lanes.scale.LanesScale.join.Goals as goal

pub returns : goal.returns
returns c = record { joined = lanes_or _ _ }
