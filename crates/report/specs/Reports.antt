-- What is reported of a reading. Assumes nothing.
use Rattle.std.specs.Prelude.{ℕ, Bool, if◌then◌else◌, ◌&&◌, List, [], ◌++◌, map, length, take, drop, Ok, Err, codes, decimal, count_by, Result, nat_le}
use Rattle.rule.specs.declared.refusal.Fault.{Fault}
use Rattle.rule.specs.declared.refusal.Refusal.{Refusal}
use Rattle.rule.specs.declared.row.Row.{Row}
use Rattle.rule.specs.Faults.{fault_text}
use Rattle.rule.specs.Reasons.{sentence}
use Rattle.rule.specs.Refusals.{number}
use Rattle.rule.specs.Rows.{remembering}
use Rattle.text.specs.declared.span.Counts.{Counts}
use Rattle.text.specs.declared.span.Span.{Span}
use Rattle.report.specs.Excerpts.{visible, excerpt}
use Rattle.report.specs.Lines.{numbered, row_line}

-- the refusals that tell a place in the text
abbrev pub placed : Refusal → Bool
placed why = nat_le 3 (number why) && nat_le (number why) 9

abbrev pub refused_line : Fault → List ℕ
refused_line f = fault_text f ++ codes "\n"

abbrev pub refusal_report : List ℕ → Fault → List ℕ
refusal_report bytes f = refused_line f ++ ((if placed f.refusal then excerpt bytes f.place else []) ++ (sentence f.refusal ++ codes "\n"))

-- the bytes of a span, as far as they lie within the text
abbrev pub spanned : List ℕ → Span → List ℕ
spanned bytes at = take at.len (drop at.start bytes)

abbrev pub signal_line : List ℕ → ℕ → Span → List ℕ
signal_line bytes n at = codes "signal " ++ (decimal n ++ (codes " " ++ (map visible (spanned bytes at) ++ codes "\n")))

abbrev pub count_lines : List Row → List ℕ
count_lines filled = codes "rows " ++ (decimal (length filled) ++ (codes "\nremember " ++ (decimal (count_by remembering filled) ++ codes "\n")))

-- a reading fills the first places of the strips
abbrev pub check_report : List ℕ → Result Counts Fault → List Row → List Span → List ℕ
check_report bytes (Ok n) strip spans = numbered (signal_line bytes) 0 (take n.names spans) ++ count_lines (take n.rows strip)
check_report bytes (Err f) strip spans = refusal_report bytes f

abbrev pub rows_report : List ℕ → Result Counts Fault → List Row → List ℕ
rows_report bytes (Ok n) strip = numbered row_line 0 (take n.rows strip)
rows_report bytes (Err f) strip = refusal_report bytes f
