-- Which texts are read, into what, and which refusal is due for the others. Assumes nothing.
use Rattle.std.specs.Prelude.{◌≡◌, ℕ, ◌<◌, ◌≤◌, false, List, [], ◌∷◌, ◌++◌, length, take, drop, Ok, Err, sum, Result, ◌≢◌, slice_index_or}
use Rattle.std.specs.List.{All}
use Rattle.rule.specs.declared.row.Row.{Row}
use Rattle.rule.specs.declared.row.Row.TheVariants.{Constant}
use Rattle.rule.specs.declared.refusal.Fault.{Fault}
use Rattle.rule.specs.Refusals.{number}
use Rattle.text.specs.declared.span.Span.{Span}
use Rattle.text.specs.declared.span.Counts.{Counts}
use Rattle.text.specs.Tokens.{Tok, named, colon, Item, token, nothing, finish, Stands}
use Rattle.text.specs.Grammar.{Tree, Spells, names, Text, Completes, Declared, Rows, endings}

-- out of place: what comes before can still be completed to a text, and with this no longer
abbrev pub Misplaced : List Tok → Item → Type 0
Misplaced ts (token t) = Completes ts × (Completes (ts ++ (t ∷ [])) → ⊥)
Misplaced ts nothing = ⊥
Misplaced ts finish = Completes ts × ((header : List (List ℕ)) (f : Tree) → Text ts header f → ⊥)

-- with the token t after the tokens ts more than 64 formulas have ended
pub record ManyRows (ts : List Tok) (t : Tok) : Type 0 where
  pub header : List (List ℕ)
  pub body : List Tok
  pub split : ts ++ (t ∷ []) ≡ names header ++ (colon ∷ body)
  pub more : List Tok
  pub tree : Tree
  pub spells : Spells (body ++ more) tree
  pub over : 64 < sum (take (length body) (endings 0 tree))

-- the refusals n that hold of an item after the tokens ts
pub data Wrong (ts : List Tok) (it : Item) (n : ℕ) : Type 0 where
  no_token : n ≡ 3 → it ≡ nothing → Wrong ts it n
  out_of_place : n ≡ 4 → Misplaced ts it → Wrong ts it n
  long_name : (x : List ℕ) → n ≡ 5 → it ≡ token (named x) → 12 < length x → Wrong ts it n
  repeated_name : (x : List ℕ) (header : List (List ℕ)) (i : ℕ) → n ≡ 6 → it ≡ token (named x) → ts ≡ names header → Declared header x i → Wrong ts it n
  many_names : (x : List ℕ) (header : List (List ℕ)) → n ≡ 7 → it ≡ token (named x) → ts ≡ names header → 16 ≤ length header → Wrong ts it n
  undeclared_name : (x : List ℕ) (header : List (List ℕ)) (body : List Tok) → n ≡ 8 → it ≡ token (named x) → ts ≡ names header ++ (colon ∷ body) → ((i : ℕ) → Declared header x i → ⊥) → Wrong ts it n
  many_rows : (t : Tok) → n ≡ 9 → it ≡ token t → ManyRows ts t → Wrong ts it n

-- refusal n at `place` is due for the text: the item there is the first of which any refusal holds, and n is the smallest
pub record Refused (text : List ℕ) (n place : ℕ) : Type 0 where
  pub before : List Tok
  pub item : Item
  pub stands : Stands text before item place
  pub wrong : Wrong before item n
  pub smallest : (m : ℕ) → Wrong before item m → n ≤ m
  pub first : (xs : List Tok) (t : Tok) (ys : List Tok) → before ≡ xs ++ (t ∷ ys) → (m : ℕ) → Wrong xs (token t) m → ⊥

-- a header that is within the limits
pub record Fine (header : List (List ℕ)) : Type 0 where
  pub few : length header ≤ 16
  pub short : All (λ x. length x ≤ 12) header
  pub apart : (i j : ℕ) → i < j → j < length header → slice_index_or header i [] ≢ slice_index_or header j []

abbrev pub no_span : Span
no_span = record { start = 0; len = 0 }

-- the spans of the header's names in the text
pub record Spanned (text : List ℕ) (header : List (List ℕ)) (spans : List Span) : Type 0 where
  pub as_many : length spans ≡ length header
  pub starts : (i : ℕ) → i < length header → Stands text (names (take i header)) (token (named (slice_index_or header i []))) (slice_index_or spans i no_span).start
  pub lengths : (i : ℕ) → i < length header → (slice_index_or spans i no_span).len ≡ length (slice_index_or header i [])

-- the text is a rule, with these names and rows
pub record Readable (text : List ℕ) (spans : List Span) (rows : List Row) : Type 0 where
  pub tokens : List Tok
  pub header : List (List ℕ)
  pub tree : Tree
  pub text_is : Text tokens header tree
  pub stop : ℕ
  pub whole : Stands text tokens finish stop
  pub fine : Fine header
  pub laid : Rows header 0 tree rows
  pub few_rows : length rows ≤ 64
  pub spanned : Spanned text header spans

pub data Outcome : Type 0 where
  read : List Span → List Row → Outcome
  refused : ℕ → ℕ → Outcome

-- strips with so many places are long enough
pub record Room (row_places name_places : ℕ) : Type 0 where
  pub for_rows : 64 ≤ row_places
  pub for_names : 16 ≤ name_places

-- the outcome that reading a text into strips with so many places should have
pub data Due (text : List ℕ) (row_places name_places : ℕ) (o : Outcome) : Type 0 where
  short_strip : (Room row_places name_places → ⊥) → o ≡ refused 1 0 → Due text row_places name_places o
  long_text : Room row_places name_places → 1024 < length text → o ≡ refused 2 0 → Due text row_places name_places o
  faulty : {n place : ℕ} → Room row_places name_places → length text ≤ 1024 → Refused text n place → o ≡ refused n place → Due text row_places name_places o
  readable : {spans : List Span} {rows : List Row} → Room row_places name_places → length text ≤ 1024 → Readable text spans rows → o ≡ read spans rows → Due text row_places name_places o

-- the outcome that a result tells, with the strips as they are then
abbrev pub outcome : List Row → List Span → Result Counts Fault → Outcome
outcome rows spans (Ok c) = read (take c.names spans) (take c.rows rows)
outcome rows spans (Err f) = refused (number f.refusal) f.place

-- the first n places are filled, and the others are as they were
pub record Filled {X : Type 0} (n most : ℕ) (old new : List X) : Type 0 where
  pub at_most : n ≤ most
  pub same_length : length new ≡ length old
  pub others_kept : drop n new ≡ drop n old

-- the first n places hold x, as far as there are so many, and the others are as they were
pub record Cleared {X : Type 0} (n : ℕ) (x : X) (old new : List X) : Type 0 where
  pub same_length : length new ≡ length old
  pub blank : (k : ℕ) → k < n → slice_index_or new k x ≡ x
  pub others_kept : drop n new ≡ drop n old

-- what the strips hold after reading
abbrev pub Left : List Row → List Row → List Span → List Span → Result Counts Fault → Type 0
Left rows rows' spans spans' (Ok c) = Filled c.rows 64 rows rows' × Filled c.names 16 spans spans'
Left rows rows' spans spans' (Err f) = Cleared 64 (Constant false) rows rows' × Cleared 16 no_span spans spans' × (f.sample ≡ 0)
