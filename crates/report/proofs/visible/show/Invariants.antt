use Rattle.std.proofs.Common.{◌≡◌, map, take}
use Rattle.report.specs.Excerpts.{visible}
use Rattle.report.proofs.visible.show.Given as goal

abbrev pub invariant-loop-k : goal.invariant-loop-k
invariant-loop-k l = take l.k l.places ≡ map visible (take l.k l.bytes)
