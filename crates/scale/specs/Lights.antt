-- Lights: no, unknown and yes, in that order. Assumes nothing.
use Rattle.std.specs.Prelude.{ℕ, List, codes}
use Rattle.scale.specs.Algebra.{Algebra}
use Rattle.scale.specs.declared.light.Light.{Light}
use Rattle.scale.specs.declared.light.Light.TheVariants.{No, Unknown, Yes}

abbrev pub greater : Light → Light → Light
greater No v = v
greater Unknown No = Unknown
greater Unknown Unknown = Unknown
greater Unknown Yes = Yes
greater Yes v = Yes

abbrev pub lesser : Light → Light → Light
lesser No v = No
lesser Unknown No = No
lesser Unknown Unknown = Unknown
lesser Unknown Yes = Unknown
lesser Yes v = v

abbrev pub turned : Light → Light
turned No = Yes
turned Unknown = Unknown
turned Yes = No

abbrev pub lights : Algebra Light
lights = record { join = greater; meet = lesser; opposite = turned; yes = Yes; no = No }

-- how a value is written
abbrev pub light_word : Light → List ℕ
light_word No = codes "no"
light_word Unknown = codes "unknown"
light_word Yes = codes "yes"
