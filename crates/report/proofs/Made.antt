-- From the report of an outcome to the report of the outcome that is due. Assumes nothing.
use Rattle.std.proofs.Common.{◌≡◌, ℕ, List, IfOk, Result}
use Rattle.std.proofs.lemmas.Result.{IfOk-weaker}
use Rattle.rule.specs.declared.refusal.Fault.{Fault}
use Rattle.rule.specs.declared.row.Row.{Row}
use Rattle.text.specs.declared.span.Counts.{Counts}
use Rattle.text.specs.declared.span.Span.{Span}
use Rattle.text.specs.Texts.{Due, outcome}
use Rattle.report.specs.Told.{Told}

pub made_told : {X Y : Type 0} (bytes : X → List ℕ) (report : Result Counts Fault → List Row → List Span → List ℕ) (text : List ℕ) (result : Result Counts Fault) (rows : List Row) (names : List Span) (r : Result X Y)
    → Due text 64 16 (outcome rows names result) → IfOk r (λ s. bytes s ≡ report result rows names) → IfOk r (λ s. Told report text (bytes s))
made_told bytes report text result rows names r due = IfOk-weaker r _ _ (λ s e. record { result = result; rows = rows; names = names; due = due; report_of = e })
