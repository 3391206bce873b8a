-- The tokens of a rule text, and how they stand in its bytes. Assumes nothing.
use Rattle.std.specs.Prelude.{◌≡◌, ℕ, ◌+◌, Bool, true, false, ◌&&◌, ◌||◌, IsTrue, IsFalse, List, [], ◌∷◌, ◌++◌, length, ◌==◌, nat_le, codes, ⊤}
use Rattle.std.specs.List.{AllPass}
use Rattle.rule.specs.Symbols.{unary_bytes, binary_bytes}
use Rattle.rule.specs.declared.operator.UnaryOperator.{UnaryOperator}
use Rattle.rule.specs.declared.operator.BinaryOperator.{BinaryOperator}

-- a token; a name is its bytes
pub data Tok : Type 0 where
  named : List ℕ → Tok
  colon opens closes : Tok
  constant : Bool → Tok
  unary : UnaryOperator → Tok
  binary : BinaryOperator → Tok

-- how a token is written
abbrev pub bytes_of : Tok → List ℕ
bytes_of (named x) = x
bytes_of colon = codes ":"
bytes_of opens = codes "("
bytes_of closes = codes ")"
bytes_of (constant true) = codes "1"
bytes_of (constant false) = codes "0"
bytes_of (unary o) = unary_bytes o
bytes_of (binary o) = binary_bytes o

-- space, tab and newline
abbrev pub blank : ℕ → Bool
blank b = b == 32 || (b == 9 || b == 10)

abbrev pub lower : ℕ → Bool
lower b = nat_le 97 b && nat_le b 122

-- lower-case letters, digits and `_`
abbrev pub name_byte : ℕ → Bool
name_byte b = lower b || ((nat_le 48 b && nat_le b 57) || b == 95)

-- a lower-case letter, and then bytes of a name
abbrev pub IsName : List ℕ → Type 0
IsName [] = ⊥
IsName (b ∷ bs) = IsTrue (lower b) × AllPass name_byte bs

-- no byte of a name comes next
abbrev pub Stops : List ℕ → Type 0
Stops [] = ⊤
Stops (b ∷ bs) = IsFalse (name_byte b)

-- the token is whole where `left` follows it: a name goes as far as its bytes go
abbrev pub Whole : Tok → List ℕ → Type 0
Whole (named x) left = IsName x × Stops left
Whole colon left = ⊤
Whole opens left = ⊤
Whole closes left = ⊤
Whole (constant b) left = ⊤
Whole (unary o) left = ⊤
Whole (binary o) left = ⊤

-- the token t begins the bytes s, and `left` follows it
pub record Begins (s : List ℕ) (t : Tok) (left : List ℕ) : Type 0 where
  pub split : s ≡ bytes_of t ++ left
  pub whole : Whole t left

abbrev pub Blanks : List ℕ → Type 0
Blanks s = AllPass blank s

-- the bytes begin, and not with a blank
abbrev pub Solid : List ℕ → Type 0
Solid [] = ⊥
Solid (b ∷ s) = IsFalse (blank b)

-- where reading stands: the bytes that are left, and the place of the first of them
pub record Pos : Type 0 where
  pub rest : List ℕ
  pub at : ℕ

-- after some blanks the token t stands at `place`, and then reading stands at q
pub record Next (p : Pos) (t : Tok) (place : ℕ) (q : Pos) : Type 0 where
  pub gap : List ℕ
  pub here : List ℕ
  pub split : p.rest ≡ gap ++ here
  pub blanks : Blanks gap
  pub begins : Begins here t q.rest
  pub placed : place ≡ p.at + length gap
  pub onward : q.at ≡ place + length (bytes_of t)

-- only blanks are left, and the text ends at `place`
pub record Ended (p : Pos) (place : ℕ) : Type 0 where
  pub blanks : Blanks p.rest
  pub placed : place ≡ p.at + length p.rest

-- after some blanks, at `place`, there are bytes that no token begins
pub record Stuck (p : Pos) (place : ℕ) : Type 0 where
  pub gap : List ℕ
  pub here : List ℕ
  pub split : p.rest ≡ gap ++ here
  pub blanks : Blanks gap
  pub solid : Solid here
  pub none : (t : Tok) (left : List ℕ) → Begins here t left → ⊥
  pub placed : place ≡ p.at + length gap

-- from p on the tokens ts are read, and then reading stands at q
abbrev pub Lex : Pos → List Tok → Pos → Type 0
Lex p [] q = p ≡ q
Lex p (t ∷ ts) q = (place : ℕ) × (m : Pos) × Next p t place m × Lex m ts q

-- what comes next: a token, bytes that no token begins, or the end of the text
pub data Item : Type 0 where
  token : Tok → Item
  nothing : Item
  finish : Item

abbrev pub At : Pos → Item → ℕ → Type 0
At p (token t) place = (q : Pos) × Next p t place q
At p nothing place = Stuck p place
At p finish place = Ended p place

-- in the text the tokens ts come first, and then the item, at `place`
pub record Stands (text : List ℕ) (ts : List Tok) (it : Item) (place : ℕ) : Type 0 where
  pub after : Pos
  pub read : Lex (record { rest = text; at = 0 }) ts after
  pub here : At after it place
