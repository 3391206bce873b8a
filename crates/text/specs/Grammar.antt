-- The grammar of rule texts: which tokens spell which formula, and the rows of a formula. Assumes nothing.
use Rattle.std.specs.Prelude.{◌≡◌, ℕ, ◌+◌, ◌-◌, ◌<◌, Bool, List, [], ◌∷◌, ◌++◌, length, slice_index_or}
use Rattle.rule.specs.declared.operator.UnaryOperator.{UnaryOperator}
use Rattle.rule.specs.declared.operator.BinaryOperator.{BinaryOperator}
use Rattle.rule.specs.declared.row.Row.{Row}
use Rattle.rule.specs.declared.row.Row.TheVariants.{Constant, Signal, Unary, Binary}
use Rattle.text.specs.Tokens.{Tok, named, colon, opens, closes, constant, unary, binary}

-- a formula, with its names as they are written
pub data Tree : Type 0 where
  truth : Bool → Tree
  name : List ℕ → Tree
  under : UnaryOperator → Tree → Tree
  pair : BinaryOperator → Tree → Tree → Tree

-- the tokens spell the formula
pub data Spells : List Tok → Tree → Type 0 where
  of_constant : {b : Bool} → Spells (constant b ∷ []) (truth b)
  of_name : {x : List ℕ} → Spells (named x ∷ []) (name x)
  of_unary : {o : UnaryOperator} {ts : List Tok} {a : Tree} → Spells ts a → Spells (unary o ∷ ts) (under o a)
  of_bracket : {o : BinaryOperator} {ts us : List Tok} {a b : Tree} → Spells ts a → Spells us b → Spells (opens ∷ (ts ++ (binary o ∷ (us ++ (closes ∷ []))))) (pair o a b)

abbrev pub names : List (List ℕ) → List Tok
names [] = []
names (x ∷ xs) = named x ∷ names xs

-- the tokens are a text: a header of one or more names, a colon, a formula
pub record Text (ts : List Tok) (header : List (List ℕ)) (f : Tree) : Type 0 where
  pub some_names : 0 < length header
  pub body : List Tok
  pub split : ts ≡ names header ++ (colon ∷ body)
  pub spells : Spells body f

-- the tokens can be completed to a text
abbrev pub Completes : List Tok → Type 0
Completes ts = (us : List Tok) × (header : List (List ℕ)) × (f : Tree) × Text (ts ++ us) header f

-- signal i has the name x
abbrev pub Declared : List (List ℕ) → List ℕ → ℕ → Type 0
Declared header x i = (i < length header) × (slice_index_or header i [] ≡ x)

-- the rows of a formula whose first row has the number k: those of its operands, then its own
abbrev pub Rows : List (List ℕ) → ℕ → Tree → List Row → Type 0
Rows header k (truth b) rows = rows ≡ Constant b ∷ []
Rows header k (name x) rows = (i : ℕ) × Declared header x i × (rows ≡ Signal i ∷ [])
Rows header k (under o a) rows = (xs : List Row) × Rows header k a xs × (rows ≡ xs ++ (Unary o (k + length xs - 1) ∷ []))
Rows header k (pair o a b) rows = (xs ys : List Row) × Rows header k a xs × Rows header (k + length xs) b ys × (rows ≡ xs ++ (ys ++ (Binary o (k + length xs - 1) (k + length xs + length ys - 1) ∷ [])))

-- for each token of a formula, how many formulas end with it, where j formulas around it end with its last token too
abbrev pub endings : ℕ → Tree → List ℕ
endings j (truth b) = (j + 1) ∷ []
endings j (name x) = (j + 1) ∷ []
endings j (under o a) = 0 ∷ endings (j + 1) a
endings j (pair o a b) = 0 ∷ (endings 0 a ++ (0 ∷ (endings 0 b ++ ((j + 1) ∷ []))))
