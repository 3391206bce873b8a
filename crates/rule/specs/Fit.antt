-- Which rows are a rule, and what taking them up answers. Assumes nothing.
use Rattle.std.specs.Prelude.{◌≡◌, ℕ, ◌<◌, ◌≤◌, Bool, true, false, ◌&&◌, ◌⊎◌, List, length, take, nat_lt, slice_index_or}
use Rattle.rule.specs.declared.row.Row.{Row}
use Rattle.rule.specs.declared.row.Row.TheVariants.{Constant, Signal, Unary, Binary}
use Rattle.rule.specs.declared.refusal.Fault.{Fault}

-- row k of a rule: its operands are earlier rows, and its signal is one of the rule's
abbrev pub row_fits : ℕ → ℕ → Row → Bool
row_fits signals k (Constant b) = true
row_fits signals k (Signal n) = nat_lt n signals
row_fits signals k (Unary o a) = nat_lt a k
row_fits signals k (Binary o a b) = nat_lt a k && nat_lt b k

abbrev pub EachFits : ℕ → List Row → Type 0
EachFits signals rows = (k : ℕ) → k < length rows → row_fits signals k (slice_index_or rows k (Constant false)) ≡ true

-- the rows are a rule over so many signals
pub record Fit (signals : ℕ) (rows : List Row) : Type 0 where
  pub some_signals : 1 ≤ signals
  pub few_signals : signals ≤ 16
  pub some_rows : 1 ≤ length rows
  pub few_rows : length rows ≤ 384
  pub each_fits : EachFits signals rows

-- why the first `count` of some rows are not taken up: too few rows are lent, which is said first, or those are no rule
abbrev pub Unfit : List Row → ℕ → ℕ → ℕ → Type 0
Unfit rows count signals n = ((n ≡ 1) × (length rows < count)) ⊎ ((n ≡ 9) × (count ≤ length rows) × (Fit signals (take count rows) → ⊥))

-- the fault of a call that has no place and no sample to tell of
pub record Placeless (f : Fault) : Type 0 where
  pub place_is : f.place ≡ 0
  pub sample_is : f.sample ≡ 0
