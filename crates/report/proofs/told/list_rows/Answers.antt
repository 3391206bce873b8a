use Rattle.std.proofs.Common.{string_bytes}
use Rattle.report.specs.Reports.{rows_report}
use Rattle.report.proofs.Made.{made_told}
use Rattle.report.proofs.told.list_rows.Goals as goal

pub returns : goal.returns
returns c =
    let reading = c.read-read_text.result in
    let shown = rw c.read-read_text.ensures.the_text at c.rows_report.ensures.report in
    record { report_of_what_is_due = made_told string_bytes (λ outcome rows names. rows_report c.args.text.now outcome rows) _ reading.outcome reading.rows.now reading.names.now c.rows_report.result c.read-read_text.ensures.outcome_is_due shown }
