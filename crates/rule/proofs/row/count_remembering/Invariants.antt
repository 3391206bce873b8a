use Rattle.std.proofs.Common.{◌≡◌, ◌≤◌, take, count_by}
use Rattle.rule.specs.Rows.{remembering}
use Rattle.rule.proofs.row.count_remembering.Given as goal

abbrev pub invariant-loop-row : goal.invariant-loop-row
invariant-loop-row l = (l.n ≡ count_by remembering (take l.row-index l.rows)) × (l.n ≤ l.row-index)
