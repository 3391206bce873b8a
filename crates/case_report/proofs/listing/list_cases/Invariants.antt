use Rattle.std.proofs.Common.{◌≡◌, map, take, string_bytes}
use Rattle.cases.specs.Shown.{shown}
use Rattle.case_report.specs.Lines.{numbered}
use Rattle.case_report.proofs.listing.list_cases.Given as goal

abbrev pub invariant-loop-k : goal.invariant-loop-k
invariant-loop-k l = string_bytes l.listing ≡ numbered 1 (map shown (take l.k l.case-items))
