use Rattle.std.proofs.Common.{◌≡◌, ◌++◌, take, string_bytes}
use Rattle.case_report.specs.Lines.{spaced}
use Rattle.case_report.specs.Words.{HasWords, word_of}
use Rattle.case_report.proofs.line.push_spaced.Given as goal

abbrev pub invariant-loop-item : goal.invariant-loop-item
invariant-loop-item g l = HasWords g.T.Display.output → string_bytes l.out ≡ string_bytes l.initial.out ++ spaced (word_of g.T.Display.output) (take l.item-index l.items)
