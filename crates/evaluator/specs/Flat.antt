-- A charge as one list of readings, sample after sample. Assumes nothing.
use Rattle.std.specs.Prelude.{ℕ, ◌+◌, ◌*◌, List, map, slice_index_or}
use Rattle.scale.specs.Algebra.{Algebra}

-- what signal n reads at sample t, and no past the end
abbrev pub flat : {S V : Type 0} → Algebra V → (S → V) → ℕ → List S → ℕ → ℕ → V
flat A means signals readings t n = slice_index_or (map means readings) (t * signals + n) A.no
