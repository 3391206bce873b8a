use Rattle.std.proofs.Output.{has_written_of_eq}
use Rattle.report.proofs.Blanks.{styled_blanks}
use Rattle.report.proofs.excerpt.ExcerptDisplay.fmt.Goals as goal

pub returns-clause-writes : goal.returns-clause-writes
returns-clause-writes g c plain ok =
    has_written_of_eq
    _
    _
    _
    _
    _
    (rw (c.laid_out.ensures, styled_blanks, c.last_line-front.ensures.by_definition, c.until_break.ensures.by_definition, c.split_at.ensures.front, c.split_at.ensures.back, c.min.ensures, c.last_end.ensures.by_definition))
    (c.writeln.ensures.writes plain ok)
