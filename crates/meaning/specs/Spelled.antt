-- The formula that each row of a rule spells, and what the rule says of a charge. Assumes nothing.
use Rattle.std.specs.Prelude.{ℕ, suc, ◌-◌, false, List, [], ◌∷◌, ◌++◌, length, slice_index_or}
use Rattle.rule.specs.declared.row.Row.{Row}
use Rattle.rule.specs.declared.row.Row.TheVariants.{Constant, Signal, Unary, Binary}
use Rattle.scale.specs.Algebra.{Algebra}
use Rattle.meaning.specs.Meaning.{Formula, constant, signal, unary, binary, value, reading}

-- the formula of a row, from those of the rows before it
abbrev pub formula : List Formula → Row → Formula
formula earlier (Constant b) = constant b
formula earlier (Signal n) = signal n
formula earlier (Unary o i) = unary o (slice_index_or earlier i (constant false))
formula earlier (Binary o i j) = binary o (slice_index_or earlier i (constant false)) (slice_index_or earlier j (constant false))

-- the formulas of some rows, behind those of the rows before them
abbrev pub formulas : List Formula → List Row → List Formula
formulas earlier [] = earlier
formulas earlier (r ∷ rows) = formulas (earlier ++ formula earlier r ∷ []) rows

-- what row i spells
abbrev pub spelled : List Row → ℕ → Formula
spelled rows i = slice_index_or (formulas [] rows) i (constant false)

-- what the rule says: its last row
abbrev pub said : List Row → Formula
said rows = spelled rows (length rows - 1)

-- its value at each sample of a charge, of which `rest` begins with sample t
abbrev pub values_from : {V : Type 0} → Algebra V → List Row → List (List V) → ℕ → List (List V) → List V
values_from A rows charge t [] = []
values_from A rows charge t (s ∷ rest) = value A (said rows) (reading A charge) t ∷ values_from A rows charge (suc t) rest

abbrev pub values : {V : Type 0} → Algebra V → List Row → List (List V) → List V
values A rows charge = values_from A rows charge 0 charge
