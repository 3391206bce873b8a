-- Which rows remember. Assumes nothing.
use Rattle.std.specs.Prelude.{Bool, true, false}
use Rattle.rule.specs.declared.operator.UnaryOperator.{UnaryOperator}
use Rattle.rule.specs.declared.operator.UnaryOperator.TheVariants.{Not, Yesterday, WeakYesterday, Once, Historically}
use Rattle.rule.specs.declared.operator.BinaryOperator.{BinaryOperator}
use Rattle.rule.specs.declared.operator.BinaryOperator.TheVariants.{And, Or, Implies, Iff, Xor, Since, WeakSince}
use Rattle.rule.specs.declared.row.Row.{Row}
use Rattle.rule.specs.declared.row.Row.TheVariants.{Constant, Signal, Unary, Binary}

abbrev pub unary_remembers : UnaryOperator → Bool
unary_remembers Not = false
unary_remembers Yesterday = true
unary_remembers WeakYesterday = true
unary_remembers Once = true
unary_remembers Historically = true

abbrev pub binary_remembers : BinaryOperator → Bool
binary_remembers And = false
binary_remembers Or = false
binary_remembers Implies = false
binary_remembers Iff = false
binary_remembers Xor = false
binary_remembers Since = true
binary_remembers WeakSince = true

-- a row remembers when its value at a sample rests on earlier samples by its own operator
abbrev pub remembering : Row → Bool
remembering (Constant b) = false
remembering (Signal n) = false
remembering (Unary o a) = unary_remembers o
remembering (Binary o a b) = binary_remembers o
