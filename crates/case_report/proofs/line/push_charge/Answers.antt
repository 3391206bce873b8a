use Rattle.std.proofs.Common.{arith}
use Rattle.std.proofs.lemmas.Grind.{common_steps}
use Rattle.std.proofs.lemmas.List.Folds.{flat_map-map}
use Rattle.case_report.proofs.line.push_charge.Goals as goal

pub returns-in-OnTwoWay : goal.returns-in-OnTwoWay
returns-in-OnTwoWay c = grind (arith, common_steps, flat_map-map)
