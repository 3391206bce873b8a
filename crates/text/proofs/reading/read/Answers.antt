use Rattle.std.proofs.Common.{◌≡◌, List, Ok, Err, true, Result, refl, subst, sym, ◌∙◌, rules}
use Rattle.std.specs.Result.{is_err}
use Rattle.rule.specs.declared.row.Row.{Row}
use Rattle.rule.specs.declared.refusal.Fault.{Fault}
use Rattle.text.specs.declared.span.Span.{Span}
use Rattle.text.specs.declared.span.Counts.{Counts}
use Rattle.text.specs.Texts.{Due, outcome}
use Rattle.text.proofs.reading.read.Goals as goal

-- the outcome of a refused reading is the refusal alone
of_refused : (rows rows' : List Row) (spans spans' : List Span) (r : Result Counts Fault) → is_err r ≡ true → outcome rows spans r ≡ outcome rows' spans' r
of_refused rows rows' spans spans' (Ok c) e = search rules
of_refused rows rows' spans spans' (Err f) e = refl

pub returns-then-is_err-clause-outcome_is_due : goal.returns-then-is_err-clause-outcome_is_due
returns-then-is_err-clause-outcome_is_due c =
    let same = of_refused _ c.clear.new.strip _ c.clear-then-is_err.new.strip c.attempt-outcome.result (sym c.is_err.ensures.value ∙ c.if-is_err.true) in
    subst (Due _ _ _) same c.attempt-outcome.ensures.attempted.due

pub returns-then-is_err-clause-no_other_is_due : goal.returns-then-is_err-clause-no_other_is_due
returns-then-is_err-clause-no_other_is_due c =
    let same = of_refused _ c.clear.new.strip _ c.clear-then-is_err.new.strip c.attempt-outcome.result (sym c.is_err.ensures.value ∙ c.if-is_err.true) in
    λ o d. c.attempt-outcome.ensures.attempted.only o d ∙ same
