-- A text is read in one way: its bytes settle each token, its place, and what comes after it. Assumes nothing.
use Rattle.std.proofs.Common.{◌≡◌, ℕ, ◌+◌, ◌<◌, Bool, true, false, cond, IsTrue, IsFalse, eqb, ◌⊎◌, List, [], ◌∷◌, ◌++◌, length, get_or, sym, refl, ap, ◌∙◌, subst, inl, inr, append-nil, arith}
use Rattle.std.specs.List.{AllPass}
use Rattle.std.proofs.lemmas.List.{append_cancel_left}
use Rattle.std.proofs.lemmas.List.Elements.{All-head, All-tail}
use Rattle.std.proofs.lemmas.Bool.Decides.{nat_tests}
use Rattle.rule.specs.declared.operator.UnaryOperator.TheVariants.{Not, Yesterday, WeakYesterday, Once, Historically}
use Rattle.rule.specs.declared.operator.BinaryOperator.TheVariants.{And, Or, Implies, Iff, Xor, Since, WeakSince}
use Rattle.text.specs.Tokens.{Tok, named, colon, opens, closes, constant, unary, binary, bytes_of, blank, lower, name_byte, Stops, Whole, Begins, Blanks, Solid, Pos, Next, Ended, Stuck, Lex, Item, token, nothing, finish, At, Stands}

passed : {A : Type 0} (b : Bool) (x y : A) → IsTrue b → cond b x y ≡ x
passed b x y h = rw h

failed : {A : Type 0} (b : Bool) (x y : A) → IsFalse b → cond b x y ≡ y
failed b x y h = rw h

not_both : {A : Type 0} (b : Bool) → IsTrue b → IsFalse b → A
not_both b h k = absurd (let e : true ≡ false = sym h ∙ k in cc)

-- the name bytes that come first
abbrev front : List ℕ → List ℕ
front [] = []
front (b ∷ s) = cond (name_byte b) (b ∷ front s) []

front_is : (x left : List ℕ) → AllPass name_byte x → Stops left → front (x ++ left) ≡ x
front_is [] [] all stops = refl
front_is [] (b ∷ left) all stops = failed (name_byte b) _ _ stops
front_is (b ∷ x) left all stops = passed (name_byte b) _ _ (All-head (λ c. name_byte c ≡ true) b x all) ∙ ap (λ l. b ∷ l) (front_is x left (All-tail (λ c. name_byte c ≡ true) b x all) stops)

-- the first of the tokens that begins with the byte b, and a colon if none does
abbrev pick : ℕ → List Tok → Tok
pick b [] = colon
pick b (t ∷ ts) = cond (eqb b (get_or (bytes_of t) 0 0)) t (pick b ts)

-- the only token that can begin these bytes: a name, or one that its first byte tells from the others
abbrev scan : List ℕ → Tok
scan [] = colon
scan (b ∷ s) = cond (lower b) (named (b ∷ front s)) (pick b (
    opens ∷ closes ∷ constant true ∷ constant false ∷ unary Not ∷ unary Yesterday ∷ unary WeakYesterday ∷ unary Once ∷ unary Historically
    ∷ binary And ∷ binary Or ∷ binary Implies ∷ binary Iff ∷ binary Xor ∷ binary Since ∷ binary WeakSince ∷ []))

lower_solid : (b : ℕ) → IsTrue (lower b) → IsFalse (blank b)
lower_solid b l = grind (arith, nat_tests)

-- a token is what `scan` finds, and does not begin with a blank: two facts by the same cases
scan_is : (t : Tok) (left : List ℕ) → Whole t left → (scan (bytes_of t ++ left) ≡ t) × Solid (bytes_of t ++ left)
scan_is (named []) left w = absurd w.0
scan_is (named (b ∷ x)) left w = (passed (lower b) _ _ w.0.0 ∙ ap (λ l. named (b ∷ l)) (front_is x left w.0.1 w.1), lower_solid b w.0.0)
scan_is colon left w = (refl, refl)
scan_is opens left w = (refl, refl)
scan_is closes left w = (refl, refl)
scan_is (constant true) left w = (refl, refl)
scan_is (constant false) left w = (refl, refl)
scan_is (unary Not) left w = (refl, refl)
scan_is (unary Yesterday) left w = (refl, refl)
scan_is (unary WeakYesterday) left w = (refl, refl)
scan_is (unary Once) left w = (refl, refl)
scan_is (unary Historically) left w = (refl, refl)
scan_is (binary And) left w = (refl, refl)
scan_is (binary Or) left w = (refl, refl)
scan_is (binary Implies) left w = (refl, refl)
scan_is (binary Iff) left w = (refl, refl)
scan_is (binary Xor) left w = (refl, refl)
scan_is (binary Since) left w = (refl, refl)
scan_is (binary WeakSince) left w = (refl, refl)

-- no token is empty
whole_alone : (t : Tok) (left : List ℕ) → Whole t left → Whole t []
whole_alone (named x) left w = (w.0, tt)
whole_alone colon left w = tt
whole_alone opens left w = tt
whole_alone closes left w = tt
whole_alone (constant b) left w = tt
whole_alone (unary o) left w = tt
whole_alone (binary o) left w = tt

solid_pos : (s : List ℕ) → Solid s → 0 < length s
solid_pos [] h = absurd h
solid_pos (b ∷ s) h = omega arith

pub bytes_pos : (t : Tok) (left : List ℕ) → Whole t left → 0 < length (bytes_of t)
bytes_pos t left w = solid_pos (bytes_of t) (subst Solid (append-nil (bytes_of t)) (scan_is t [] (whole_alone t left w)).1)

pub begins_same : {s : List ℕ} {t u : Tok} {x y : List ℕ} → Begins s t x → Begins s u y → (t ≡ u) × (x ≡ y)
begins_same {t} {u} {x} {y} a b =
    let both : bytes_of t ++ x ≡ bytes_of u ++ y = sym a.split ∙ b.split in
    let e : t ≡ u = sym (scan_is t x a.whole).0 ∙ ap scan both ∙ (scan_is u y b.whole).0 in
    (e, append_cancel_left (bytes_of t) x y (both ∙ ap (λ v. bytes_of v ++ y) (sym e)))

pub begins_solid : {s : List ℕ} {t : Tok} {x : List ℕ} → Begins s t x → Solid s
begins_solid {t} {x} b = subst Solid (sym b.split) (scan_is t x b.whole).1

-- blanks end where the first other byte stands
pub gap_same : (g h a b : List ℕ) → Blanks g → Blanks h → Solid a → Solid b → g ++ a ≡ h ++ b → (g ≡ h) × (a ≡ b)
gap_same [] [] a b bg bh sa sb e = (refl, e)
gap_same [] (d ∷ h) a b bg bh sa sb e = not_both (blank d) (All-head (λ c. blank c ≡ true) d h bh) (subst Solid e sa)
gap_same (c ∷ g) [] a b bg bh sa sb e = not_both (blank c) (All-head (λ c. blank c ≡ true) c g bg) (subst Solid (sym e) sb)
gap_same (c ∷ g) (d ∷ h) a b bg bh sa sb e =
    let r = gap_same g h a b (All-tail (λ c. blank c ≡ true) c g bg) (All-tail (λ c. blank c ≡ true) d h bh) sa sb (cc) in
    let f = r.0 in
    (cc, r.1)

blanks_not_solid : (g s : List ℕ) → Blanks (g ++ s) → Solid s → ⊥
blanks_not_solid [] [] b h = h
blanks_not_solid [] (c ∷ s) b h = not_both (blank c) (All-head (λ c. blank c ≡ true) c s b) h
blanks_not_solid (c ∷ g) s b h = blanks_not_solid g s (All-tail (λ c. blank c ≡ true) c (g ++ s) b) h

-- after some blanks the bytes `here` stand at `place`: what a token and bytes that no token begins share
record Lands (p : Pos) (here : List ℕ) (place : ℕ) : Type 0 where
  gap : List ℕ
  split : p.rest ≡ gap ++ here
  blanks : Blanks gap
  solid : Solid here
  placed : place ≡ p.at + length gap

next_lands : {p q : Pos} {t : Tok} {m : ℕ} (x : Next p t m q) → Lands p x.here m
next_lands x = record { gap = x.gap; split = x.split; blanks = x.blanks; solid = begins_solid x.begins; placed = x.placed }

stuck_lands : {p : Pos} {m : ℕ} (x : Stuck p m) → Lands p x.here m
stuck_lands x = record { gap = x.gap; split = x.split; blanks = x.blanks; solid = x.solid; placed = x.placed }

lands_same : {p : Pos} {s t : List ℕ} {m n : ℕ} → Lands p s m → Lands p t n → (s ≡ t) × (m ≡ n)
lands_same {s} {t} x y =
    let g = gap_same x.gap y.gap s t x.blanks y.blanks x.solid y.solid (sym x.split ∙ y.split) in
    (g.1, cc g.0)

lands_not_ended : {p : Pos} {s : List ℕ} {m n : ℕ} → Lands p s m → Ended p n → ⊥
lands_not_ended {s} x y = blanks_not_solid x.gap s (subst Blanks x.split y.blanks) x.solid

pos_same : (p q : Pos) → p.rest ≡ q.rest → p.at ≡ q.at → p ≡ q
pos_same p q e f = ap {B = Pos} (λ r. record { rest = r; at = p.at }) e ∙ ap (λ n. record { rest = q.rest; at = n }) f

-- the token begins any bytes that stand after the blanks, since these are the same ones
next_begins : {p q : Pos} {t : Tok} {m n : ℕ} {s : List ℕ} (x : Next p t m q) → Lands p s n → Begins s t q.rest
next_begins {q} {t} x y = subst (λ z. Begins z t q.rest) (lands_same (next_lands x) y).0 x.begins

pub next_same : {p q r : Pos} {t u : Tok} {m n : ℕ} → Next p t m q → Next p u n r → (t ≡ u) × (m ≡ n) × (q ≡ r)
next_same {q} {r} x y =
    let b = begins_same (next_begins x (next_lands y)) y.begins in
    let l = lands_same (next_lands x) (next_lands y) in
    let e = b.0 in
    let f = l.1 in
    (e, f, pos_same q r b.1 (cc))

next_not_stuck : {p q : Pos} {t : Tok} {m n : ℕ} → Next p t m q → Stuck p n → ⊥
next_not_stuck {q} {t} x y = y.none t q.rest (next_begins x (stuck_lands y))

pub item_same : (p : Pos) (a b : Item) (m n : ℕ) → At p a m → At p b n → (a ≡ b) × (m ≡ n)
item_same p (token t) (token u) m n x y = let s = next_same x.1 y.1 in (ap token s.0, s.1)
item_same p (token t) nothing m n x y = absurd (next_not_stuck x.1 y)
item_same p (token t) finish m n x y = absurd (lands_not_ended (next_lands x.1) y)
item_same p nothing (token u) m n x y = absurd (next_not_stuck y.1 x)
item_same p nothing nothing m n x y = (refl, (lands_same (stuck_lands x) (stuck_lands y)).1)
item_same p nothing finish m n x y = absurd (lands_not_ended (stuck_lands x) y)
item_same p finish (token u) m n x y = absurd (lands_not_ended (next_lands y.1) x)
item_same p finish nothing m n x y = absurd (lands_not_ended (stuck_lands y) x)
item_same p finish finish m n x y = (refl, x.placed ∙ sym y.placed)

pub lex_same : (p q r : Pos) (ts : List Tok) → Lex p ts q → Lex p ts r → q ≡ r
lex_same p q r [] x y = sym x ∙ y
lex_same p q r (t ∷ ts) x y = lex_same y.1 q r ts (subst (λ m. Lex m ts q) (next_same x.2 y.2).2 x.3) y.3

pub lex_append : (p m q : Pos) (ts us : List Tok) → Lex p ts m → Lex m us q → Lex p (ts ++ us) q
lex_append p m q [] us x y = subst (λ z. Lex z us q) (sym x) y
lex_append p m q (t ∷ ts) us x y = (x.0, x.1, x.2, lex_append x.1 m q ts us x.3 y)

pub lex_split : (p q : Pos) (ts us : List Tok) → Lex p (ts ++ us) q → (m : Pos) × Lex p ts m × Lex m us q
lex_split p q [] us x = (p, refl, x)
lex_split p q (t ∷ ts) us x =
    let s = lex_split x.1 q ts us x.3 in
    (s.0, (x.0, x.1, x.2, s.1), s.2)

pub stands_same : {text : List ℕ} {ts : List Tok} {a b : Item} {m n : ℕ} → Stands text ts a m → Stands text ts b n → (a ≡ b) × (m ≡ n)
stands_same {ts} {a} {b} {m} {n} x y = item_same y.after a b m n (subst (λ p. At p a m) (lex_same _ x.after y.after ts x.read y.read) x.here) y.here

-- us is ts and more, and the item a is the first token of what is more
abbrev pub Further : List Tok → Item → List Tok → Type 0
Further ts a us = (t : Tok) × (ys : List Tok) × (us ≡ ts ++ (t ∷ ys)) × (a ≡ token t)

further_cons : (t u : Tok) (ts us : List Tok) (a : Item) → t ≡ u → Further ts a us → Further (t ∷ ts) a (u ∷ us)
further_cons t u ts us a e f = let g = f.2 in (f.0, f.1, cc, f.3)

lex_compare : (p q r : Pos) (ts us : List Tok) (a b : Item) (m n : ℕ) → Lex p ts q → Lex p us r → At q a m → At r b n → (ts ≡ us) ⊎ (Further ts a us ⊎ Further us b ts)
lex_compare p q r [] [] a b m n x y i j = inl refl
lex_compare p q r [] (u ∷ us) a b m n x y i j = inr (inl (u, us, refl, (item_same p a (token u) m _ (subst (λ z. At z a m) (sym x) i) (y.1, y.2)).0))
lex_compare p q r (t ∷ ts) [] a b m n x y i j = inr (inr (t, ts, refl, (item_same p b (token t) n _ (subst (λ z. At z b n) (sym y) j) (x.1, x.2)).0))
lex_compare p q r (t ∷ ts) (u ∷ us) a b m n x y i j =
    let s = next_same x.2 y.2 in
    let e = s.0 in
    elim (lex_compare y.1 q r ts us a b m n (subst (λ z. Lex z ts q) s.2 x.3) y.3 i j) [
      | inl same ↦ inl (cc)
      | inr (inl f) ↦ inr (inl (further_cons t u ts us a e f))
      | inr (inr f) ↦ inr (inr (further_cons u t us ts b (sym e) f))
    ]

-- of two lists of tokens that come first in one text, one begins the other, and the item after the shorter is the longer one's next token
pub stands_compare : {text : List ℕ} {ts us : List Tok} {a b : Item} {m n : ℕ} → Stands text ts a m → Stands text us b n → (ts ≡ us) ⊎ (Further ts a us ⊎ Further us b ts)
stands_compare {ts} {us} {a} {b} {m} {n} x y = lex_compare _ x.after y.after ts us a b m n x.read y.read x.here y.here
