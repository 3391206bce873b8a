-- What each row of a rule has at each sample of a charge. Assumes nothing.
use Rattle.std.specs.Prelude.{ℕ}
use Rattle.scale.specs.Algebra.{Algebra}
use Rattle.meaning.specs.Meaning.{value}
use Rattle.meaning.specs.Spelled.{spelled}
use Rattle.evaluator.specs.declared.Formula.{Formula}
use Rattle.evaluator.specs.Flat.{flat}

-- what signal n reads at sample t of the charge that a formula is over
abbrev pub signal_value : {S V : Type 0} → Algebra V → (S → V) → Formula S → ℕ → ℕ → V
signal_value A means f = flat A means f.rule.now.signals f.readings.now

-- the value at sample t of what a formula's row spells
unfoldable pub row_value : {S V : Type 0} → Algebra V → (S → V) → Formula S → ℕ → V
row_value A means f t = value A (spelled f.rule.now.rows.now f.row) (signal_value A means f) t
