use Rattle.std.proofs.Common.{◌≡◌, length}
use Rattle.text.specs.Readers.{Headed}
use Rattle.text.proofs.header.Header.read.Given as goal

-- the strip is still the one that was lent, and holds the spans of the names so far
abbrev pub invariant-loop-step : goal.invariant-loop-step
invariant-loop-step l =
    (l.spans.places.ghost_name ≡ l.initial.spans.places.ghost_name)
    × Headed l.text l.initial.spans.places.now l.spans.places.now l.spans.filled (record { rest = l.from.0.now; at = l.from.1.0 })

abbrev pub decreases-loop-step : goal.decreases-loop-step
decreases-loop-step l = length l.from.0.now
