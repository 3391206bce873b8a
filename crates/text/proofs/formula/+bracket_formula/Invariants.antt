use Rattle.std.proofs.Common.{◌+◌, ◌*◌, length}
use Rattle.text.proofs.formula.+bracket_formula.Given as goal

-- a bracket reader starts where the bracket's first formula starts, so it counts one more
abbrev pub decreases-bracket : goal.decreases-bracket
decreases-bracket l = 2 * length l.from.rest.now + 1

abbrev pub decreases-formula : goal.decreases-formula
decreases-formula l = 2 * length l.from.rest.now
