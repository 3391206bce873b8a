-- What the readers inside the crate answer. Assumes nothing.
use Rattle.std.specs.Prelude.{◌≡◌, ℕ, ◌+◌, ◌-◌, ◌<◌, ◌≤◌, ◌⊎◌, List, [], ◌∷◌, ◌++◌, map, length, take, drop, Some, None, Ok, Err, Option, Result, MatchResult, slice_set, ⊤}
use Rattle.std.specs.List.{All}
use Rattle.rule.specs.declared.operator.BinaryOperator.{BinaryOperator}
use Rattle.rule.specs.declared.row.Row.{Row}
use Rattle.rule.specs.declared.refusal.Fault.{Fault}
use Rattle.rule.specs.Refusals.{number}
use Rattle.rule.specs.declared.refusal.Refusal.TheVariants.{NoToken, OutOfPlace, LongName, RepeatedName, ManyNames, UndeclaredName, UnfitRows}
use Rattle.text.specs.declared.cursor.Cursor.{Cursor}
use Rattle.text.specs.declared.span.Span.{Span}
use Rattle.text.specs.declared.span.Counts.{Counts}
use Rattle.text.specs.declared.header.Header.{Header}
use Rattle.text.specs.declared.formula.Done.{Done}
use Rattle.text.specs.declared.strip.Strip.{Strip}
use Rattle.text.specs.Tokens.{Tok, named, colon, opens, closes, constant, unary, binary, Pos, Next, Ended, Stuck, Lex}
use Rattle.text.specs.Scanning.{pos_of}
use Rattle.text.specs.Grammar.{Tree, names, Declared, Rows}
use Rattle.text.specs.Begun.{spell, size, Part, spell_part, ended, Begun, spell_begun, ended_in, Alive, Dead, put}
use Rattle.rule.specs.Faults.{fault}
use Rattle.text.specs.Texts.{Fine, Spanned, Refused, Readable, Filled, Outcome, Due, outcome}

-- a token that a formula may hold: a name is declared and short
abbrev pub Good : List (List ℕ) → Tok → Type 0
Good hs (named x) = (length x ≤ 12) × ((i : ℕ) × Declared hs x i)
Good hs colon = ⊤
Good hs opens = ⊤
Good hs closes = ⊤
Good hs (constant b) = ⊤
Good hs (unary o) = ⊤
Good hs (binary o) = ⊤

-- from p on at least one token is read, the last of them at `last`
pub record Ends (p : Pos) (ts : List Tok) (last : ℕ) (q : Pos) : Type 0 where
  pub front : List Tok
  pub final : Tok
  pub mid : Pos
  pub split : ts ≡ front ++ (final ∷ [])
  pub read : Lex p front mid
  pub step : Next mid final last q

-- no token comes next, or one that is out of place by U
pub data Missing (U : Tok → Type 0) (p : Pos) (e : Fault) : Type 0 where
  no_token : (place : ℕ) → e ≡ fault NoToken place → Stuck p place → Missing U p e
  early_end : (place : ℕ) → e ≡ fault OutOfPlace place → Ended p place → Missing U p e
  unwanted : (place : ℕ) (t : Tok) (m : Pos) → e ≡ fault OutOfPlace place → Next p t place m → U t → Missing U p e

-- why reading a formula stops at q, after its tokens `sofar`; k rows come before it, and there is room for cap
pub data Why (hs : List (List ℕ)) (cap k : ℕ) (sofar : List Tok) (q : Pos) (e : Fault) : Type 0 where
  missing : Missing (λ t. Dead (sofar ++ (t ∷ []))) q e → Why hs cap k sofar q e
  long_name : (place : ℕ) (x : List ℕ) (m : Pos) → e ≡ fault LongName place → Next q (named x) place m → Alive (sofar ++ (named x ∷ [])) → 12 < length x → Why hs cap k sofar q e
  undeclared : (place : ℕ) (x : List ℕ) (m : Pos) → e ≡ fault UndeclaredName place → Next q (named x) place m → Alive (sofar ++ (named x ∷ [])) → length x ≤ 12 → ((i : ℕ) → Declared hs x i → ⊥) → Why hs cap k sofar q e
  many_rows : (place : ℕ) (t : Tok) (m : Pos) (b : Begun) → e ≡ fault UnfitRows place → Next q t place m → Good hs t → sofar ++ (t ∷ []) ≡ spell_begun b → cap < k + ended_in b → Why hs cap k sofar q e

-- reading from p on, after the tokens `pre` of a formula, is refused: the tokens toks are read, and then comes the fault
pub record Broken (hs : List (List ℕ)) (cap k : ℕ) (pre : List Tok) (p : Pos) (e : Fault) : Type 0 where
  pub begun : Part
  pub toks : List Tok
  pub stop : Pos
  pub spelled : pre ++ toks ≡ spell_part begun
  pub read : Lex p toks stop
  pub good : All (Good hs) toks
  pub room : k + ended begun ≤ cap
  pub why : Why hs cap k (pre ++ toks) stop e

-- reading from p on, after the tokens `pre` of a formula, finishes it and lays its rows from k on, up to n
pub record Formed (hs : List (List ℕ)) (pre : List Tok) (p : Pos) (s : List Row) (k : ℕ) (d : Done) (s' : List Row) (n : ℕ) : Type 0 where
  pub tree : Tree
  pub toks : List Tok
  pub rows : List Row
  pub spelled : pre ++ toks ≡ spell tree
  pub ends : Ends p toks d.last (pos_of d.after)
  pub good : All (Good hs) toks
  pub laid : Rows hs k tree rows
  pub sized : length rows ≡ size tree
  pub strip : s' ≡ put s k rows
  pub filled : n ≡ k + length rows
  pub number : d.row ≡ k + length rows - 1
  pub fits : n ≤ length s

-- what reading a formula answers, where the rows lie in s and are laid from k on, up to n in s'
abbrev pub FormedAt : List (List ℕ) → List Tok → Pos → List Row → ℕ → List Row → ℕ → Result Done Fault → Type 0
FormedAt hs pre p s k s' n (Ok d) = Formed hs pre p s k d s' n
FormedAt hs pre p s k s' n (Err e) = Broken hs (length s) k pre p e

abbrev pub FormulaTold : List (List ℕ) → List Tok → Cursor → Strip Row → Strip Row → Result Done Fault → Type 0
FormulaTold hs pre from old new r = FormedAt hs pre (pos_of from) old.places.now old.filled new.places.now new.filled r

-- one row is laid at k, if there is room
abbrev pub LaidAt : List Row → ℕ → Row → ℕ → Cursor → List Row → ℕ → Result Done Fault → Type 0
LaidAt s k row last after s' n (Ok d) = (k < length s) × (s' ≡ slice_set s k row) × (n ≡ k + 1) × (d ≡ record { row = k; last = last; after = after })
LaidAt s k row last after s' n (Err e) = (k ≡ length s) × (e ≡ fault UnfitRows last)

abbrev pub RowTold : Strip Row → Row → ℕ → Cursor → Strip Row → Result Done Fault → Type 0
RowTold old row last after new r = LaidAt old.places.now old.filled row last after new.places.now new.filled r

abbrev pub Joins : Tok → Type 0
Joins (named x) = ⊥
Joins colon = ⊥
Joins opens = ⊥
Joins closes = ⊥
Joins (constant b) = ⊥
Joins (unary o) = ⊥
Joins (binary o) = ⊤

abbrev pub Shuts : Tok → Type 0
Shuts (named x) = ⊥
Shuts colon = ⊥
Shuts opens = ⊥
Shuts closes = ⊤
Shuts (constant b) = ⊥
Shuts (unary o) = ⊥
Shuts (binary o) = ⊥

abbrev pub OperatorTold : Cursor → Result (BinaryOperator × Cursor) Fault → Type 0
OperatorTold from (Ok x) = (place : ℕ) × Next (pos_of from) (binary x.0) place (pos_of x.1)
OperatorTold from (Err e) = Missing (λ t. Joins t → ⊥) (pos_of from) e

abbrev pub ClosingTold : Cursor → Result (ℕ × Cursor) Fault → Type 0
ClosingTold from (Ok x) = Next (pos_of from) closes x.0 (pos_of x.1)
ClosingTold from (Err e) = Missing (λ t. Shuts t → ⊥) (pos_of from) e

abbrev pub SignalTold : List (List ℕ) → List ℕ → ℕ → Result ℕ Fault → Type 0
SignalTold hs x place (Ok i) = (length x ≤ 12) × Declared hs x i
SignalTold hs x place (Err e) = ((e ≡ fault LongName place) × (12 < length x)) ⊎ ((e ≡ fault UndeclaredName place) × (length x ≤ 12) × ((i : ℕ) → Declared hs x i → ⊥))

-- the names of a header, as they stand in the text
abbrev pub name_at : List ℕ → Span → List ℕ
name_at text n = take n.len (drop n.start text)

abbrev pub names_in : List ℕ → List Span → List (List ℕ)
names_in text ns = map (name_at text) ns

abbrev pub names_of : Header → List (List ℕ)
names_of h = names_in h.text.now h.names.now

abbrev pub SoughtIn : List (List ℕ) → List ℕ → Option ℕ → Type 0
SoughtIn hs x (Some i) = Declared hs x i
SoughtIn hs x None = (i : ℕ) → Declared hs x i → ⊥

-- a name is sought, unless it is too long to be one
abbrev pub FoundAt : List (List ℕ) → List ℕ → ℕ → Result (Option ℕ) Fault → Type 0
FoundAt hs x place (Ok r) = (length x ≤ 12) × SoughtIn hs x r
FoundAt hs x place (Err e) = (e ≡ fault LongName place) × (12 < length x)

-- whether a name may be the next of the header; the last case is found when the name is laid
abbrev pub Admitted : List (List ℕ) → List ℕ → ℕ → Result (Unit {0}) Fault → Type 0
Admitted hs x place (Ok u) = (length x ≤ 12) × ((i : ℕ) → Declared hs x i → ⊥)
Admitted hs x place (Err e) = ((e ≡ fault LongName place) × (12 < length x)) ⊎ (((e ≡ fault RepeatedName place) × (length x ≤ 12) × ((i : ℕ) × Declared hs x i)) ⊎ ((e ≡ fault ManyNames place) × (length x ≤ 12) × ((i : ℕ) → Declared hs x i → ⊥) × (length hs ≡ 16)))

abbrev pub begin : List ℕ → Pos
begin text = record { rest = text; at = 0 }

-- what may follow n names of a header
abbrev pub Follows : ℕ → Tok → Type 0
Follows n (named x) = ⊤
Follows n colon = 0 < n
Follows n opens = ⊥
Follows n closes = ⊥
Follows n (constant b) = ⊥
Follows n (unary o) = ⊥
Follows n (binary o) = ⊥

-- why reading a header stops at q, after the names hs
pub data HeadWhy (hs : List (List ℕ)) (q : Pos) (e : Fault) : Type 0 where
  cut_off : Missing (λ t. Follows (length hs) t → ⊥) q e → HeadWhy hs q e
  unfit_name : (place : ℕ) (x : List ℕ) (m : Pos) → Next q (named x) place m → Admitted hs x place (Err e) → HeadWhy hs q e

pub record HeadBroken (text : List ℕ) (e : Fault) : Type 0 where
  pub hs : List (List ℕ)
  pub fine : Fine hs
  pub stop : Pos
  pub read : Lex (begin text) (names hs) stop
  pub why : HeadWhy hs stop e

-- the names hs are read up to p, and their spans fill the first n places
pub record Headed (text : List ℕ) (old new : List Span) (n : ℕ) (p : Pos) : Type 0 where
  pub hs : List (List ℕ)
  pub fine : Fine hs
  pub read : Lex (begin text) (names hs) p
  pub count : n ≡ length hs
  pub names_are : names_in text (take n new) ≡ hs
  pub inside : All (λ x. x.start + x.len ≤ length text) (take n new)
  pub spanned : Spanned text hs (take n new)
  pub kept : drop n new ≡ drop n old
  pub here : p.rest ≡ drop p.at text
  pub long : length new ≡ 16

-- the names and the colon are read
pub record HeadRead (text : List ℕ) (old new : List Span) (n : ℕ) (after : Cursor) : Type 0 where
  pub last : Pos
  pub headed : Headed text old new n last
  pub some : 0 < n
  pub place : ℕ
  pub colon_is : Next last colon place (pos_of after)

abbrev pub HeadTold : List ℕ → List Span → List Span → ℕ → Result Cursor Fault → Type 0
HeadTold text old new n (Ok after) = HeadRead text old new n after
HeadTold text old new n (Err e) = HeadBroken text e

-- only blanks are left, or something stands there
abbrev pub EndTold : Cursor → Result (Unit {0}) Fault → Type 0
EndTold from (Ok x) = (place : ℕ) × Ended (pos_of from) place
EndTold from (Err e) = ((place : ℕ) × (e ≡ fault NoToken place) × Stuck (pos_of from) place) ⊎ ((place : ℕ) × (t : Tok) × (m : Pos) × (e ≡ fault OutOfPlace place) × Next (pos_of from) t place m)

-- the fault is the one that is due
pub record Told (text : List ℕ) (e : Fault) : Type 0 where
  pub due : Refused text (number e.refusal) e.place
  pub no_sample : e.sample ≡ 0

pub record TextRead (text : List ℕ) (rows rows' : List Row) (spans spans' : List Span) (c : Counts) : Type 0 where
  pub readable : Readable text (take c.names spans') (take c.rows rows')
  pub rows_filled : Filled c.rows 64 rows rows'
  pub names_filled : Filled c.names 16 spans spans'

abbrev pub TextTold : List ℕ → List Row → List Row → List Span → List Span → Result Counts Fault → Type 0
TextTold text rows rows' spans spans' (Ok c) = TextRead text rows rows' spans spans' c
TextTold text rows rows' spans spans' (Err e) = Told text e

-- only the first n places may have changed
pub record Within {X : Type 0} (n : ℕ) (old new : List X) : Type 0 where
  pub same_length : length new ≡ length old
  pub others_kept : drop n new ≡ drop n old

pub record AttemptTold (text : List ℕ) (rows rows' : List Row) (spans spans' : List Span) (r : Result Counts Fault) : Type 0 where
  pub due : Due text (length rows) (length spans) (outcome rows' spans' r)
  pub only : (o : Outcome) → Due text (length rows) (length spans) o → o ≡ outcome rows' spans' r
  pub left : MatchResult r (λ c. Filled c.rows 64 rows rows' × Filled c.names 16 spans spans') (λ e. Within 64 rows rows' × Within 16 spans spans' × (e.sample ≡ 0))
