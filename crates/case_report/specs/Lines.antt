-- The lines that the worked cases are shown on. Assumes nothing.
use Rattle.std.specs.Prelude.{ℕ, ◌+◌, List, [], ◌∷◌, ◌++◌, codes, decimal}
use Rattle.std.specs.List.{flat_map}
use Rattle.std.specs.Fmt.{signed_decimal}
use Rattle.scale.specs.TwoWay.{yes_no}
use Rattle.scale.specs.Lights.{light_word}
use Rattle.cases.specs.Examples.{Worked, on_two_way, on_lights, on_lanes, on_margins, Example, examples}

-- each item's word, with a space before it
abbrev pub spaced : {X : Type 0} → (X → List ℕ) → List X → List ℕ
spaced word xs = flat_map (λ x. codes " " ++ word x) xs

-- what a scale gives for some readings
abbrev pub outcome : {X Y : Type 0} → List ℕ → (X → List ℕ) → (Y → List ℕ) → List X → List Y → List ℕ
outcome scale reading value readings given = scale ++ (codes ":" ++ (spaced reading readings ++ (codes " gives" ++ spaced value given)))

abbrev pub worked_text : Worked → List ℕ
worked_text (on_two_way signals letters expected) = outcome (codes "two-way") decimal yes_no letters expected
worked_text (on_lights readings expected) = outcome (codes "lights") light_word light_word readings expected
worked_text (on_lanes readings expected) = outcome (codes "lanes") decimal decimal readings expected
worked_text (on_margins readings expected) = outcome (codes "margins") signed_decimal signed_decimal readings expected

abbrev pub case_line : ℕ → Example → List ℕ
case_line n e = decimal n ++ (codes " " ++ (e.text ++ (codes " | " ++ (worked_text e.worked ++ codes "\n"))))

-- the lines of some cases, of which the first has the number n
abbrev pub numbered : ℕ → List Example → List ℕ
numbered n [] = []
numbered n (e ∷ es) = case_line n e ++ numbered (n + 1) es

abbrev pub case_lines : List ℕ
case_lines = numbered 1 examples
