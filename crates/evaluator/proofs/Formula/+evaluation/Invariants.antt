use Rattle.std.proofs.Common.{◌≡◌, ℕ, ◌+◌, ◌*◌, ◌≤◌, max}
use Rattle.meaning.specs.Meaning.{join_of, meet_of, up_to, after}
use Rattle.evaluator.specs.Rows.{row_value}
use Rattle.evaluator.proofs.Formula.+evaluation.Given as goal

-- an operator stands above its operands' rows, and below its own
abbrev pub decreases-value_at : goal.decreases-value_at
decreases-value_at g l = 4 * l.self.now.row

abbrev pub decreases-once : goal.decreases-once
decreases-once g l = 4 * l.self.now.row + 1

abbrev pub decreases-always : goal.decreases-always
decreases-always g l = 4 * l.self.now.row + 1

abbrev pub decreases-always_after : goal.decreases-always_after
decreases-always_after g l = 4 * l.self.now.row + 1

abbrev pub decreases-since : goal.decreases-since
decreases-since g l = 4 * max l.self.now.row l.other.now.row + 2

abbrev pub decreases-unary : goal.decreases-unary
decreases-unary g l = 4 * l.self.now.row + 3

abbrev pub decreases-binary : goal.decreases-binary
decreases-binary g l = 4 * max l.self.now.row l.other.now.row + 3

-- with sample k's value, what is behind is the join, or the meet, of the samples up to k
abbrev pub invariant-once-loop-k : goal.invariant-once-loop-k
invariant-once-loop-k g l =
    let f = row_value g.S.Scale.ops g.S.Scale.means l.self in
    g.S.Scale.ops.join (f l.k) (g.S.Scale.means l.all) ≡ join_of g.S.Scale.ops (up_to l.k) f

abbrev pub invariant-always-loop-k : goal.invariant-always-loop-k
invariant-always-loop-k g l =
    let f = row_value g.S.Scale.ops g.S.Scale.means l.self in
    g.S.Scale.ops.meet (f l.k) (g.S.Scale.means l.all) ≡ meet_of g.S.Scale.ops (up_to l.k) f

abbrev pub invariant-always_after-loop-j : goal.invariant-always_after-loop-j
invariant-always_after-loop-j g l =
    (l.j ≤ max l.k l.t)
    × (g.S.Scale.means l.all ≡ meet_of g.S.Scale.ops (after l.k l.j) (row_value g.S.Scale.ops g.S.Scale.means l.self))

abbrev pub invariant-since-loop-k : goal.invariant-since-loop-k
invariant-since-loop-k g l =
    let a = row_value g.S.Scale.ops g.S.Scale.means l.self in
    let b = row_value g.S.Scale.ops g.S.Scale.means l.other in
    let f = λ (k : ℕ). g.S.Scale.ops.meet (b k) (meet_of g.S.Scale.ops (after k l.t) a) in
    g.S.Scale.ops.join (f l.k) (g.S.Scale.means l.all) ≡ join_of g.S.Scale.ops (up_to l.k) f
