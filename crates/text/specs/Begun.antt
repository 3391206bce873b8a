-- Formulas as their readers see them: spelled from the left, and perhaps not finished. Assumes nothing.
use Rattle.std.specs.Prelude.{◌≡◌, ℕ, ◌+◌, List, [], ◌∷◌, ◌++◌, ◌≢◌, slice_set}
use Rattle.rule.specs.declared.operator.UnaryOperator.{UnaryOperator}
use Rattle.rule.specs.declared.operator.BinaryOperator.{BinaryOperator}
use Rattle.text.specs.Tokens.{Tok, named, opens, closes, constant, unary, binary}
use Rattle.text.specs.Grammar.{Tree, truth, name, under, pair}

-- the tokens of a formula
abbrev pub spell : Tree → List Tok
spell (truth b) = constant b ∷ []
spell (name x) = named x ∷ []
spell (under o a) = unary o ∷ spell a
spell (pair o a b) = opens ∷ (spell a ++ (binary o ∷ (spell b ++ (closes ∷ []))))

-- how many rows it has
abbrev pub size : Tree → ℕ
size (truth b) = 1
size (name x) = 1
size (under o a) = size a + 1
size (pair o a b) = size a + size b + 1

-- what stands of a formula that is not finished
pub data Part : Type 0 where
  start : Part
  marked : UnaryOperator → Part → Part
  left_in : Part → Part
  left_done : Tree → Part
  right_in : Tree → BinaryOperator → Part → Part
  right_done : Tree → BinaryOperator → Tree → Part

abbrev pub spell_part : Part → List Tok
spell_part start = []
spell_part (marked o p) = unary o ∷ spell_part p
spell_part (left_in p) = opens ∷ spell_part p
spell_part (left_done a) = opens ∷ spell a
spell_part (right_in a o p) = opens ∷ (spell a ++ (binary o ∷ spell_part p))
spell_part (right_done a o b) = opens ∷ (spell a ++ (binary o ∷ spell b))

-- the rows of the formulas that have ended in it
abbrev pub ended : Part → ℕ
ended start = 0
ended (marked o p) = ended p
ended (left_in p) = ended p
ended (left_done a) = size a
ended (right_in a o p) = size a + ended p
ended (right_done a o b) = size a + size b

-- a formula, finished or not
pub data Begun : Type 0 where
  part : Part → Begun
  whole : Tree → Begun

abbrev pub spell_begun : Begun → List Tok
spell_begun (part p) = spell_part p
spell_begun (whole f) = spell f

abbrev pub ended_in : Begun → ℕ
ended_in (part p) = ended p
ended_in (whole f) = size f

-- the tokens can be completed to a formula
abbrev pub Alive : List Tok → Type 0
Alive ts = (u : List Tok) × (f : Tree) × (ts ++ u ≡ spell f)

-- no formula begins with the tokens, whatever comes after them
abbrev pub Dead : List Tok → Type 0
Dead ts = (u v : List Tok) (f : Tree) → ts ++ u ≢ spell f ++ v

-- the list with elements put from the place k on
abbrev pub put : {X : Type 0} → List X → ℕ → List X → List X
put s k [] = s
put s k (r ∷ rs) = put (slice_set s k r) (k + 1) rs
