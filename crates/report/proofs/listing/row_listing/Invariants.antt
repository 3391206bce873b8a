use Rattle.std.proofs.Common.{◌≡◌, ◌++◌, drop, string_bytes}
use Rattle.report.specs.Lines.{numbered, row_line}
use Rattle.report.proofs.listing.row_listing.Given as goal

abbrev pub invariant-loop-k : goal.invariant-loop-k
invariant-loop-k l = string_bytes l.listing ++ numbered row_line l.k-counter (drop l.k-counter l.rows) ≡ numbered row_line 0 l.rows
