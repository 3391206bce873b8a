-- Charges worked through by hand, and what it is that they come out so. Assumes nothing.
use Rattle.std.specs.Prelude.{◌≡◌, ℕ, zero, suc, ◌/◌, ◌%◌, Bool, true, false, List, [], ◌∷◌, map, ℤ, pos, negsuc, codes, ◌==◌}
use Rattle.std.specs.List.{AllByRecursion}
use Rattle.scale.specs.TwoWay.{two_way}
use Rattle.scale.specs.Lights.{lights}
use Rattle.scale.specs.Lanes.{Lane, lanes, bit}
use Rattle.scale.specs.Margins.{margins}
use Rattle.scale.specs.declared.light.Light.{Light}
use Rattle.scale.specs.declared.light.Light.TheVariants.{Unknown}
use Rattle.scale.specs.declared.margin.Margin.{Margin}
use Rattle.rule.specs.declared.operator.UnaryOperator.TheVariants.{Not, Yesterday, WeakYesterday, Once, Historically}
use Rattle.rule.specs.declared.operator.BinaryOperator.TheVariants.{Or, Implies, Since, WeakSince}
use Rattle.rule.specs.declared.row.Row.{Row}
use Rattle.rule.specs.declared.row.Row.TheVariants.{Signal, Unary, Binary}
use Rattle.meaning.specs.Spelled.{values}

-- the sample of so many signals that a letter writes: bit n is signal n
abbrev pub lettered : ℕ → ℕ → List Bool
lettered zero letter = []
lettered (suc n) letter = (letter % 2 == 1) ∷ lettered n (letter / 2)

-- samples of one signal
abbrev pub single : {V : Type 0} → List V → List (List V)
single readings = map (λ v. v ∷ []) readings

-- what the lanes of a number hold
abbrev pub lanes_of : ℕ → Lane → Bool
lanes_of n i = bit n i.number

-- readings and expected values on a scale; two-way samples are letters of so many signals, the others have one signal
pub data Worked : Type 0 where
  on_two_way : ℕ → List ℕ → List Bool → Worked
  on_lights : List Light → List Light → Worked
  on_lanes : List ℕ → List ℕ → Worked
  on_margins : List ℤ → List ℤ → Worked

pub record Example : Type 0 where
  pub text : List ℕ
  pub rows : List Row
  pub worked : Worked

-- the rows come out as expected
abbrev pub ComesOut : List Row → Worked → Type 0
ComesOut rows (on_two_way signals letters expected) = values two_way rows (map (lettered signals) letters) ≡ expected
ComesOut rows (on_lights readings expected) = values lights rows (single readings) ≡ expected
ComesOut rows (on_lanes readings expected) = values lanes rows (single (map lanes_of readings)) ≡ map lanes_of expected
ComesOut rows (on_margins readings expected) = (charge : List Margin) × (map (λ u. u.level) charge ≡ readings) × (map (λ u. u.level) (values margins rows (single charge)) ≡ expected)

abbrev pub Holds : Example → Type 0
Holds e = ComesOut e.rows e.worked

abbrev example : List ℕ → List Row → Worked → Example
example text rows worked = record { text = text; rows = rows; worked = worked }

abbrev pub examples : List Example
examples =
    example (codes "p : Yp") (Signal 0 ∷ Unary Yesterday 0 ∷ []) (on_two_way 1 (1 ∷ 0 ∷ []) (false ∷ true ∷ []))
    ∷ example (codes "p : Zp") (Signal 0 ∷ Unary WeakYesterday 0 ∷ []) (on_two_way 1 (0 ∷ 1 ∷ 0 ∷ []) (true ∷ false ∷ true ∷ []))
    ∷ example (codes "p : Op") (Signal 0 ∷ Unary Once 0 ∷ []) (on_two_way 1 (0 ∷ 1 ∷ 0 ∷ []) (false ∷ true ∷ true ∷ []))
    ∷ example (codes "p : Hp") (Signal 0 ∷ Unary Historically 0 ∷ []) (on_two_way 1 (1 ∷ 0 ∷ 1 ∷ []) (true ∷ false ∷ false ∷ []))
    ∷ example (codes "p q : (p S q)") (Signal 0 ∷ Signal 1 ∷ Binary Since 0 1 ∷ []) (on_two_way 2 (2 ∷ 1 ∷ 0 ∷ []) (true ∷ true ∷ false ∷ []))
    ∷ example (codes "p q : (p W q)") (Signal 0 ∷ Signal 1 ∷ Binary WeakSince 0 1 ∷ []) (on_two_way 2 (1 ∷ 1 ∷ 0 ∷ 1 ∷ []) (true ∷ true ∷ false ∷ false ∷ []))
    ∷ example (codes "p : (p | !p)") (Signal 0 ∷ Signal 0 ∷ Unary Not 1 ∷ Binary Or 0 2 ∷ []) (on_lights (Unknown ∷ []) (Unknown ∷ []))
    ∷ example (codes "p : (p -> Yp)") (Signal 0 ∷ Signal 0 ∷ Unary Yesterday 1 ∷ Binary Implies 0 2 ∷ []) (on_margins (pos 5 ∷ []) (negsuc 4 ∷ []))
    ∷ example (codes "hot door stamp : (stamp -> (!door S hot))") (Signal 2 ∷ Signal 1 ∷ Unary Not 1 ∷ Signal 0 ∷ Binary Since 2 3 ∷ Binary Implies 0 4 ∷ []) (on_two_way 3 (4 ∷ 1 ∷ 4 ∷ 2 ∷ 4 ∷ []) (false ∷ true ∷ true ∷ true ∷ false ∷ []))
    ∷ example (codes "p : Op") (Signal 0 ∷ Unary Once 0 ∷ []) (on_lanes (5 ∷ 2 ∷ []) (5 ∷ 7 ∷ []))
    ∷ []

-- every one comes out as expected
abbrev pub AllHold : Type 0
AllHold = AllByRecursion Holds examples
