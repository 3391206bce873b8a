-- Lanes: 64 two-way values side by side, one to a bit of a number. Assumes nothing.
use Rattle.std.specs.Prelude.{ℕ, ◌/◌, ◌%◌, ◌^◌, ◌<◌, Bool, ◌==◌}
use Rattle.scale.specs.Algebra.{Algebra}
use Rattle.scale.specs.TwoWay.{two_way}
use Rattle.scale.specs.declared.lanes.Lanes.{Lanes as Stored}

-- values of a scale side by side, one for each place; every operation works place by place
abbrev pub side_by_side : {V : Type 0} → Algebra V → (I : Type 0) → Algebra (I → V)
side_by_side A I = record {
  join = λ u v i. A.join (u i) (v i);
  meet = λ u v i. A.meet (u i) (v i);
  opposite = λ u i. A.opposite (u i);
  yes = λ i. A.yes;
  no = λ i. A.no;
}

pub record Lane : Type 0 where
  pub number : ℕ
  pub within : number < 64

abbrev pub lanes : Algebra (Lane → Bool)
lanes = side_by_side two_way Lane

-- bit i of a number, the lowest being bit 0
abbrev pub bit : ℕ → ℕ → Bool
bit n i = n / 2 ^ i % 2 == 1

-- lane i of a stored value is bit i of its number
abbrev pub lane_of : Stored → Lane → Bool
lane_of u i = bit u.bits i.number
