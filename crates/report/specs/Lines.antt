-- Lines that are numbered, as those of rows. Assumes nothing.
use Rattle.std.specs.Prelude.{ℕ, ◌+◌, List, [], ◌∷◌, ◌++◌, codes, decimal}
use Rattle.rule.specs.declared.row.Row.{Row}
use Rattle.rule.specs.Symbols.{row_text}

-- the lines of some items, of which the first has the number k
abbrev pub numbered : {X : Type 0} → (ℕ → X → List ℕ) → ℕ → List X → List ℕ
numbered line k [] = []
numbered line k (x ∷ xs) = line k x ++ numbered line (k + 1) xs

abbrev pub row_line : ℕ → Row → List ℕ
row_line k row = decimal k ++ (codes ": " ++ (row_text row ++ codes "\n"))
