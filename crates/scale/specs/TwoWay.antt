-- Two-way: no and yes. Assumes nothing.
use Rattle.std.specs.Prelude.{ℕ, Bool, true, false, not, ◌&&◌, ◌||◌, List, codes}
use Rattle.scale.specs.Algebra.{Algebra}
use Rattle.scale.specs.declared.two_way.TwoWay.{TwoWay}
use Rattle.scale.specs.declared.two_way.TwoWay.TheVariants.{No, Yes}

abbrev pub held : TwoWay → Bool
held No = false
held Yes = true

abbrev pub two_way : Algebra Bool
two_way = record { join = ◌||◌; meet = ◌&&◌; opposite = not; yes = true; no = false }

-- how a value is written
abbrev pub yes_no : Bool → List ℕ
yes_no true = codes "yes"
yes_no false = codes "no"
