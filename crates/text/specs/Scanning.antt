-- What the token reader answers. Assumes nothing.
use Rattle.std.specs.Prelude.{ℕ, List, Some, None, Ok, Err, Option, Result}
use Rattle.std.specs.Borrow.{Bor}
use Rattle.text.specs.declared.token.Token.{Token}
use Rattle.text.specs.declared.token.Token.TheVariants.{Name, Colon, Open, Close, Constant, Unary, Binary}
use Rattle.text.specs.declared.cursor.Cursor.{Cursor}
use Rattle.text.specs.declared.cursor.Step.{Step}
use Rattle.text.specs.declared.token.NoToken.{NoToken}
use Rattle.text.specs.Tokens.{Tok, named, colon, opens, closes, constant, unary, binary, Begins, Pos, Next, Ended, Stuck}

-- the token that the code's token shows
abbrev pub shown : Token → Tok
shown (Name bytes) = named bytes.now
shown Colon = colon
shown Open = opens
shown Close = closes
shown (Constant b) = constant b
shown (Unary o) = unary o
shown (Binary o) = binary o

abbrev pub Found : List ℕ → Option (Token × Bor (List ℕ)) → Type 0
Found s None = (t : Tok) (left : List ℕ) → Begins s t left → ⊥
Found s (Some x) = Begins s (shown x.0) x.1.now

abbrev pub pos_of : Cursor → Pos
pos_of c = record { rest = c.rest.now; at = c.at }

abbrev pub Onward : Pos → Option Token → ℕ → Cursor → Type 0
Onward p None place after = Ended p place
Onward p (Some t) place after = Next p (shown t) place (pos_of after)

-- what comes next from the cursor on
abbrev pub Scanned : Cursor → Result Step NoToken → Type 0
Scanned from (Ok r) = Onward (pos_of from) r.token r.place r.after
Scanned from (Err e) = Stuck (pos_of from) e.place
