use Rattle.std.proofs.Common.{◌≡◌, ℕ, ◌<◌, true, false, slice_index_or}
use Rattle.rule.specs.declared.row.Row.TheVariants.{Constant}
use Rattle.rule.specs.Fit.{row_fits}
use Rattle.rule.proofs.rule.fits.Given as goal

abbrev pub invariant-loop-k : goal.invariant-loop-k
invariant-loop-k l = (j : ℕ) → j < l.k → row_fits l.signals j (slice_index_or l.rows j (Constant false)) ≡ true
