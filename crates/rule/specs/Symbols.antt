-- How operators and rows are written. Assumes nothing.
use Rattle.std.specs.Prelude.{ℕ, Bool, true, false, List, ◌++◌, codes, decimal}
use Rattle.rule.specs.declared.operator.UnaryOperator.{UnaryOperator}
use Rattle.rule.specs.declared.operator.UnaryOperator.TheVariants.{Not, Yesterday, WeakYesterday, Once, Historically}
use Rattle.rule.specs.declared.operator.BinaryOperator.{BinaryOperator}
use Rattle.rule.specs.declared.operator.BinaryOperator.TheVariants.{And, Or, Implies, Iff, Xor, Since, WeakSince}
use Rattle.rule.specs.declared.row.Row.{Row}
use Rattle.rule.specs.declared.row.Row.TheVariants.{Constant, Signal, Unary, Binary}

-- an operator as rule texts have it
abbrev pub unary_bytes : UnaryOperator → List ℕ
unary_bytes Not = codes "!"
unary_bytes Yesterday = codes "Y"
unary_bytes WeakYesterday = codes "Z"
unary_bytes Once = codes "O"
unary_bytes Historically = codes "H"

abbrev pub binary_bytes : BinaryOperator → List ℕ
binary_bytes And = codes "&"
binary_bytes Or = codes "|"
binary_bytes Implies = codes "->"
binary_bytes Iff = codes "<->"
binary_bytes Xor = codes "^"
binary_bytes Since = codes "S"
binary_bytes WeakSince = codes "W"

abbrev pub verdict : Bool → List ℕ
verdict true = codes "yes"
verdict false = codes "no"

-- a row as it is listed
abbrev pub row_text : Row → List ℕ
row_text (Constant b) = codes "const " ++ verdict b
row_text (Signal n) = codes "signal " ++ decimal n
row_text (Unary o a) = unary_bytes o ++ (codes " " ++ decimal a)
row_text (Binary o a b) = binary_bytes o ++ (codes " " ++ (decimal a ++ (codes " " ++ decimal b)))
