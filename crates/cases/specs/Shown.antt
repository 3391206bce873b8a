-- The example that a case of the code shows. Assumes nothing.
use Rattle.std.specs.Prelude.{ℕ, [], map, slice_index_or}
use Rattle.scale.specs.TwoWay.{held}
use Rattle.cases.specs.declared.case.Case.{Case}
use Rattle.cases.specs.declared.case.Charge.{Charge}
use Rattle.cases.specs.declared.case.Charge.TheVariants.{OnTwoWay, OnLights, OnLanes, OnMargins}
use Rattle.cases.specs.Examples.{Worked, on_two_way, on_lights, on_lanes, on_margins, Example, examples}

abbrev pub worked_by : Charge → Worked
worked_by (OnTwoWay signals letters expected) = on_two_way signals letters.now (map held expected.now)
worked_by (OnLights readings expected) = on_lights readings.now expected.now
worked_by (OnLanes readings expected) = on_lanes readings.now expected.now
worked_by (OnMargins readings expected) = on_margins readings.now expected.now

abbrev pub shown : Case → Example
shown c = record { text = c.text.now; rows = c.rows.now; worked = worked_by c.charge }

abbrev pub nth : ℕ → Example
nth k = slice_index_or examples k (record { text = []; rows = []; worked = on_two_way 0 [] [] })
