use Rattle.std.proofs.Common.{arith}
use Rattle.scale.proofs.Bitwise.{lanes_not}
use Rattle.scale.proofs.lanes.scale.LanesScale.opposite.Goals as goal

pub returns : goal.returns
returns c = record { turned = lanes_not _ (omega arith) }
