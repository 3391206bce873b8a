-- Which samples stand after one. Assumes nothing.
use Rattle.std.proofs.Common.{◌≡◌, ℕ, zero, suc, ◌≤◌, [], refl, arith}
use Rattle.std.proofs.lemmas.Bool.{le-ltb}
use Rattle.meaning.specs.Meaning.{after}

-- none, where it is the last or later
pub after_none : (k t : ℕ) → t ≤ k → after k t ≡ []
after_none k zero h = rw (le-ltb k 0 h) refl
after_none k (suc t) h = rw (le-ltb k (suc t) h) (after_none k t (omega arith))
