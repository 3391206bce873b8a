-- The line of a text that a place lies on, with a caret under the place. Assumes nothing.
use Rattle.std.specs.Prelude.{ℕ, ◌-◌, min, Bool, if◌then◌else◌, ◌||◌, List, ◌++◌, map, length, take, drop, replicate, codes, ◌==◌, nat_lt, slice_index}
use Rattle.std.specs.List.{before_first, after_last}

-- a byte as it is shown: a tab as a space, and any other that is not printable as a point
abbrev pub visible : ℕ → ℕ
visible b = if b == 9 then 32 else (if nat_lt b 32 || nat_lt 126 b then 46 else b)

-- a line break
abbrev pub is_break : ℕ → Bool
is_break b = b == 10

-- where the last line ends: before the line break at the end of the text, if there is one
abbrev pub last_end : List ℕ → ℕ
last_end bytes = length bytes - (if is_break (slice_index bytes (length bytes - 1)) then 1 else 0)

-- the line, and a line with a caret, where `before` and `after` are what stands before and after the place
abbrev pub pointed : List ℕ → List ℕ → List ℕ
pointed before after = let front = after_last is_break before in
    map visible front ++ (map visible (before_first is_break after) ++ (codes "\n" ++ (replicate (length front) 32 ++ codes "^\n")))

-- a place past the last line's end is shown at that end
abbrev pub excerpt : List ℕ → ℕ → List ℕ
excerpt bytes place = let at = min place (last_end bytes) in pointed (take at bytes) (drop at bytes)
