-- A row's value by those of its operands. Assumes nothing.
use Rattle.std.proofs.Common.{◌≡◌, ℕ, Bool, false, [], slice_index_or, ap, ap₂, ◌∙◌}
use Rattle.scale.specs.Algebra.{Algebra}
use Rattle.rule.specs.declared.operator.UnaryOperator.{UnaryOperator}
use Rattle.rule.specs.declared.operator.BinaryOperator.{BinaryOperator}
use Rattle.rule.specs.declared.row.Row.{Row}
use Rattle.rule.specs.declared.row.Row.TheVariants.{Constant, Signal, Unary, Binary}
use Rattle.meaning.specs.Meaning.{constant_value, unary_value, binary_value, value}
use Rattle.meaning.specs.Spelled.{formula, formulas, spelled}
use Rattle.meaning.proofs.Spelling.{row_spells}
use Rattle.evaluator.specs.declared.Formula.{Formula}
use Rattle.evaluator.specs.Rows.{signal_value, row_value}

abbrev row_of : {S : Type 0} → Formula S → Row
row_of f = slice_index_or f.rule.now.rows.now f.row (Constant false)

-- g is the formula of row a, of the same rule and over the same readings as f
pub record IsOperand {S : Type 0} (f : Formula S) (a : ℕ) (g : Formula S) : Type 0 where
  pub same_rule : g.rule.now ≡ f.rule.now
  pub same_readings : g.readings.now ≡ f.readings.now
  pub the_row : g.row ≡ a

module _ {S V : Type 0} (A : Algebra V) (means : S → V) (f : Formula S) (t : ℕ) where
  by_row : (r : Row) → row_of f ≡ r → row_value A means f t ≡ value A (formula (formulas [] f.rule.now.rows.now) r) (signal_value A means f) t
  unfolding row_value
  by_row r is =
      ap (λ s. value A s (signal_value A means f) t)
      (row_spells f.rule.now.signals f.rule.now.rows.now f.row f.within (f.rule.now.fit.each_fits f.row f.within)
      ∙ ap (formula (formulas [] f.rule.now.rows.now)) is)

  by_operand : (a : ℕ) (g : Formula S) → IsOperand f a g → value A (spelled f.rule.now.rows.now a) (signal_value A means f) ≡ row_value A means g
  unfolding row_value
  by_operand a g at = cc (at.same_rule, at.same_readings, at.the_row)

  pub constant_row : (b : Bool) → row_of f ≡ Constant b → row_value A means f t ≡ constant_value A b
  constant_row b is = by_row (Constant b) is

  pub signal_row : (n : ℕ) → row_of f ≡ Signal n → row_value A means f t ≡ signal_value A means f t n
  signal_row n is = by_row (Signal n) is

  pub unary_row : (o : UnaryOperator) (a : ℕ) (x : Formula S) → row_of f ≡ Unary o a → IsOperand f a x
      → row_value A means f t ≡ unary_value A o (row_value A means x) t
  unary_row o a x is at = by_row (Unary o a) is ∙ ap (λ u. unary_value A o u t) (by_operand a x at)

  pub binary_row : (o : BinaryOperator) (a b : ℕ) (x y : Formula S) → row_of f ≡ Binary o a b → IsOperand f a x → IsOperand f b y
      → row_value A means f t ≡ binary_value A o (row_value A means x) (row_value A means y) t
  binary_row o a b x y is at bt = by_row (Binary o a b) is ∙ ap₂ (λ u v. binary_value A o u v t) (by_operand a x at) (by_operand b y bt)

pub ruleset by_operands = (constant_row, signal_row, unary_row, binary_row)
