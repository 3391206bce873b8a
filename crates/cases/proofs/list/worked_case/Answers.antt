use Rattle.std.proofs.Common.{◌≡◌, ◌≤◌, ℕ, List, map, length, MatchOption, Bor, arith}
use Rattle.std.specs.Prelude.{Option, Some, None, slice_index_or}
use Rattle.std.specs.Option.{option_copied}
use Rattle.std.specs.Slice.{IsItemAt}
use Rattle.std.proofs.lemmas.Grind.{common_steps}
use Rattle.cases.specs.declared.case.Case.{Case}
use Rattle.cases.specs.Examples.{Example, examples}
use Rattle.cases.specs.Shown.{shown, nth}
use Rattle.cases.proofs.list.worked_case.Goals as goal

-- item k of cases that show these examples, of which d is the one past the end
item_shown : (cases : List Case) (es : List Example) (d : Example) (k : ℕ) (item : Option (Bor Case)) → IsItemAt cases k item → map shown cases ≡ es → MatchOption (option_copied item) (length es ≤ k) (λ c. shown c ≡ slice_index_or es k d)
item_shown cases es d k None at all = grind (arith, common_steps)
item_shown cases es d k (Some c) at all = grind (arith, common_steps)

pub returns-clause-the_case : goal.returns-clause-the_case
returns-clause-the_case c = rw c.copied.ensures (item_shown _ examples (nth 10) _ _ c.get.ensures.lookup c.worked_cases.ensures.the_cases)
