-- The worked cases come out as expected. Assumes nothing.
use Rattle.std.proofs.Common.{◌≡◌, [], ◌∷◌, pos, sym, refl, ap, ◌∙◌, ap₂, arith}
use Rattle.std.proofs.lemmas.Int.{ints}
use Rattle.scale.specs.Lanes.{lanes}
use Rattle.scale.specs.declared.margin.Margin.{Margin}
use Rattle.scale.proofs.Bitwise.{lanes_or}
use Rattle.scale.specs.Laws.{lanes_laws}
use Rattle.scale.proofs.Order.{join_no}
use Rattle.cases.specs.Examples.{lanes_of, AllHold}

five : Margin
five = record { level = pos 5; low = omega (arith, ints); high = omega (arith, ints) }

-- lanes are functions, so their values are compared lane by lane
two_lanes : (lanes.join (lanes_of 5) lanes.no ∷ lanes.join (lanes_of 2) (lanes.join (lanes_of 5) lanes.no) ∷ []) ≡ (lanes_of 5 ∷ lanes_of 7 ∷ [])
two_lanes =
    let first = join_no lanes_laws (lanes_of 5) in
    ap₂ (λ x y. x ∷ y ∷ []) first (ap (lanes.join (lanes_of 2)) first ∙ sym (lanes_or 2 5))

pub all_hold : AllHold
unfolding five
all_hold = (refl, (refl, (refl, (refl, (refl, (refl, (refl, ((five ∷ [], refl, refl), (refl, (two_lanes, tt))))))))))
