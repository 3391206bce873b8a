-- From scale to scale. Assumes nothing.
use Rattle.std.specs.Prelude.{◌≡◌, ℕ, ◌<◌, Bool, true, false}
use Rattle.scale.specs.declared.lanes.Lanes.{Lanes as Stored}
use Rattle.scale.specs.declared.two_way.TwoWay.{TwoWay}
use Rattle.scale.specs.Algebra.{Algebra, Translation}
use Rattle.scale.specs.TwoWay.{two_way, held}
use Rattle.scale.specs.Lanes.{Lane, lanes, lane_of}

-- no to no and yes to yes
abbrev pub firm : {V : Type 0} → Algebra V → Bool → V
firm A true = A.yes
firm A false = A.no

-- one lane
abbrev pub lane : {V : Type 0} → Lane → (Lane → V) → V
lane i u = u i

-- v is lane i of a stored value, and taking that lane is a translation
pub record OneLane (u : Stored) (i : ℕ) (v : TwoWay) : Type 0 where
  pub within : i < 64
  pub value : held v ≡ lane (record { number = i; within = within }) (lane_of u)
  pub translates : Translation lanes two_way (lane (record { number = i; within = within }))
