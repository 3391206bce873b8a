use Rattle.std.proofs.Common.{◌≡◌, length, refl, arith}
use Rattle.report.proofs.told.Places.read.Goals as goal

pub returns : goal.returns
returns c =
    let rows : length c.args.self.now.rows ≡ 64 = omega arith in
    let names : length c.args.self.now.names ≡ 16 = omega arith in
    record { outcome_is_due = rw (rows, names) at c.read-outcome.ensures.outcome_is_due; the_text = refl }
