-- What laying one more place of a strip answers. Assumes nothing.
use Rattle.std.specs.Prelude.{◌≡◌, ℕ, ◌+◌, ◌<◌, List, length, Some, None, Option, slice_set}

-- k places of s are laid; afterwards the places are s', of which n are laid
abbrev pub LaidTold : {X : Type 0} → List X → ℕ → X → List X → ℕ → Option ℕ → Type 0
LaidTold s k x s' n (Some i) = (k < length s) × (s' ≡ slice_set s k x) × (n ≡ k + 1) × (i ≡ k)
LaidTold s k x s' n None = (k ≡ length s) × (s' ≡ s) × (n ≡ k)
