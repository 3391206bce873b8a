-- What `{}` writes of the values of a type, from its `output`. Only private contracts speak through this. Assumes nothing.
use Rattle.std.specs.Prelude.{ℕ, List, [], Option, IsSome, unwrap_or}

-- the type states what is written of each of its values
abbrev pub HasWords : {X : Type 0} → (X → Option (List ℕ)) → Type 0
HasWords {X} output = (x : X) → IsSome (output x)

-- what is written of x, if its type states that
abbrev pub word_of : {X : Type 0} → (X → Option (List ℕ)) → X → List ℕ
word_of output x = unwrap_or (output x) []
