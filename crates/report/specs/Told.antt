-- What is told of a text: the report of the outcome that is due for it. Assumes nothing.
use Rattle.std.specs.Prelude.{◌≡◌, ℕ, List, Result}
use Rattle.rule.specs.declared.refusal.Fault.{Fault}
use Rattle.rule.specs.declared.row.Row.{Row}
use Rattle.text.specs.declared.span.Counts.{Counts}
use Rattle.text.specs.declared.span.Span.{Span}
use Rattle.text.specs.Texts.{Due, outcome}
use Rattle.report.specs.Reports.{check_report, rows_report}

-- `shown` is the report of the outcome that is due for reading the text into strips of 64 and 16 places
pub record Told (report : Result Counts Fault → List Row → List Span → List ℕ) (text shown : List ℕ) : Type 0 where
  pub result : Result Counts Fault
  pub rows : List Row
  pub names : List Span
  pub due : Due text 64 16 (outcome rows names result)
  pub report_of : shown ≡ report result rows names

abbrev pub Checked : List ℕ → List ℕ → Type 0
Checked text shown = Told (check_report text) text shown

abbrev pub Listed : List ℕ → List ℕ → Type 0
Listed text shown = Told (λ r rows names. rows_report text r rows) text shown
