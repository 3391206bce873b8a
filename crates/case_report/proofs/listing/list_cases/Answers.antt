use Rattle.std.proofs.Common.{◌≡◌, ℕ, ◌+◌, ◌<◌, List, [], ◌∷◌, ◌++◌, map, length, get_or, take, arith}
use Rattle.std.proofs.lemmas.Grind.{common_steps}
use Rattle.std.proofs.lemmas.List.{take_all}
use Rattle.cases.specs.Examples.{Example}
use Rattle.cases.specs.Shown.{shown}
use Rattle.case_report.specs.Lines.{case_line, numbered}
use Rattle.case_report.proofs.listing.list_cases.Goals as goal

-- one case more
numbered-append : (n : ℕ) (es : List Example) (e : Example) → numbered n (es ++ e ∷ []) ≡ numbered n es ++ case_line (n + length es) e
numbered-append n [] e = grind (arith, common_steps)
numbered-append n (x ∷ es) e = grind (arith, common_steps, numbered-append (n + 1) es e)

-- a loop's step: the line of item k is written
numbered_more : {X : Type 0} (f : X → Example) (xs : List X) (k : ℕ) (d : X) (was now : List ℕ) → k < length xs → was ≡ numbered 1 (map f (take k xs)) → now ≡ was ++ case_line (k + 1) (f (get_or xs k d)) → now ≡ numbered 1 (map f (take (k + 1) xs))
numbered_more f xs k d was now lt before adds = grind (arith, common_steps, numbered-append)

pub loop-k-preserved : goal.loop-k-preserved
loop-k-preserved c = numbered_more shown _ c.loop-k.k _ _ _ c.loop-k-test.true c.loop-k.invariant c.in_ok-push_case_line.ensures.adds

pub returns : goal.returns
returns c = record { listed = grind (arith, take_all) }
