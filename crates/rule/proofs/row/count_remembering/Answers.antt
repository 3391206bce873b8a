use Rattle.std.proofs.Common.{count_by, sym, ap, ◌∙◌, arith}
use Rattle.std.proofs.lemmas.List.{take_all}
use Rattle.std.proofs.lemmas.List.Sums.{count_by_more_yes, count_by_more_no}
use Rattle.rule.specs.Rows.{remembering}
use Rattle.rule.proofs.row.count_remembering.Goals as goal
use Rattle.rule.proofs.row.count_remembering.Goals.{then-remembers, else-remembers}

pub loop-row-preserved : goal.loop-row-preserved
loop-row-preserved c =
    let rows = c.args.rows.now in
    let i = c.loop-row.row-index in
    let lt = c.loop-row-test.true in
    let e = c.loop-row.invariant.0 in
    elim c.if-remembers.branch [
      | then-remembers w ↦ let m = count_by_more_yes remembering rows i _ lt (sym w.if-remembers.ensures.by_operator) in (omega (arith, w.n-is), omega (arith, w.n-is))
      | else-remembers w ↦ let m = count_by_more_no remembering rows i _ lt (sym w.if-remembers.ensures.by_operator) in (omega (arith, w.n-is), omega (arith, w.n-is))
    ]

pub returns : goal.returns
returns c = record { counts = c.loop-row.invariant.0 ∙ ap (count_by remembering) (take_all c.loop-row.row-index c.args.rows.now c.loop-row-test.false) }
