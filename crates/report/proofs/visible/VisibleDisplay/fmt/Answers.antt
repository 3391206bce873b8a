use Rattle.std.proofs.Common.{◌++◌, append_assoc, ◌∙◌, rules}
use Rattle.std.proofs.Output.{has_written_append}
use Rattle.std.proofs.lemmas.List.{map-append}
use Rattle.report.proofs.visible.VisibleDisplay.fmt.Goals as goal

pub loop-piece-preserved : goal.loop-piece-preserved
loop-piece-preserved g c =
    let steps = c.in-Some.ensures.steps in (
      search rules,
      tt,
      steps.0 ∙ c.loop-piece.invariant.2,
      λ plain.
          let so_far = c.loop-piece.invariant.3 plain in (
            so_far.0 ++ c.show.result.now,
            has_written_append _ _ _ _ _ _ so_far.1 (search rules),
            rw (append_assoc, c.show.ensures.as_shown, ← map-append, ← steps.1.0) so_far.2,
          ),
    )
