use Rattle.scale.proofs.Bitwise.{lanes_and}
use Rattle.scale.proofs.lanes.scale.LanesScale.meet.Goals as goal

pub returns : goal.returns
returns c = record { met = lanes_and _ _ }
