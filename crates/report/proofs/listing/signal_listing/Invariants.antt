use Rattle.std.proofs.Common.{◌≡◌, ◌++◌, drop, string_bytes}
use Rattle.report.specs.Lines.{numbered}
use Rattle.report.specs.Reports.{signal_line}
use Rattle.report.proofs.listing.signal_listing.Given as goal

abbrev pub invariant-loop-n : goal.invariant-loop-n
invariant-loop-n l = string_bytes l.listing ++ numbered (signal_line l.text) l.n-counter (drop l.n-counter l.names) ≡ numbered (signal_line l.text) 0 l.names
