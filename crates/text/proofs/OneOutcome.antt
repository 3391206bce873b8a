-- At most one outcome is due for a text. Assumes nothing.
use Rattle.std.proofs.Common.{◌≡◌, ℕ, ◌+◌, ◌-◌, ◌<◌, ◌≤◌, true, List, [], ◌∷◌, ◌++◌, length, get_or, sym, refl, ap, ◌∙◌, subst, inl, inr, append_assoc, append-nil, arith, length-append}
use Rattle.std.specs.List.{All}
use Rattle.std.proofs.lemmas.List.{get_or_at, get_or_append_left, ext_get_or}
use Rattle.std.proofs.lemmas.List.Elements.{All-head, All-tail, All-cons, All-append}
use Rattle.rule.specs.declared.row.Row.{Row}
use Rattle.rule.specs.declared.row.Row.TheVariants.{Signal, Unary}
use Rattle.text.specs.declared.span.Span.{Span}
use Rattle.text.specs.Tokens.{Tok, named, colon, opens, closes, constant, unary, binary, Item, token, finish, Stands}
use Rattle.text.specs.Grammar.{Tree, truth, name, under, pair, Spells, names, Text, Declared, Rows}
use Rattle.text.specs.Begun.{spell, size, whole}
use Rattle.text.specs.Texts.{Wrong, no_token, out_of_place, long_name, repeated_name, many_names, undeclared_name, many_rows, Refused, Fine, no_span, Spanned, Readable, Outcome, Due, short_strip, long_text, faulty, readable}
use Rattle.text.proofs.Each.{each_one, each_at}
use Rattle.text.proofs.OneReading.{stands_same, Further, stands_compare}
use Rattle.text.proofs.Spelling.{one_zero, head_of, tail_of, same, names_same}
use Rattle.text.proofs.Counting.{spells_spell, spell_of, rows_ended, rows_ended_before, ended_more, ended_begun}

-- names that come before another name are a front of the header
header_front : (header hs : List (List ℕ)) (x : List ℕ) (body ys : List Tok) → names header ++ (colon ∷ body) ≡ names hs ++ (named x ∷ ys) → (gs : List (List ℕ)) × (header ≡ hs ++ (x ∷ gs))
header_front [] [] x body ys e = one_zero (cc)
header_front [] (h ∷ hs) x body ys e = one_zero (cc)
header_front (g ∷ gs) [] x body ys e = let n : named g ≡ named x = head_of _ _ _ _ e in (gs, cc)
header_front (g ∷ gs) (h ∷ hs) x body ys e =
    let i = header_front gs hs x body ys (tail_of _ _ _ _ e) in
    let n : named g ≡ named h = head_of _ _ _ _ e in
    let p = i.1 in
    (i.0, cc)

-- what holds of each name of the header and of the body
each_name : (P : List ℕ → Type 0) (header : List (List ℕ)) (x : List ℕ) (body xs ys : List Tok) → All P header → ((us vs : List Tok) → body ≡ us ++ (named x ∷ vs) → P x) → names header ++ (colon ∷ body) ≡ xs ++ (named x ∷ ys) → P x
each_name P [] x body [] ys all inside e = one_zero (cc)
each_name P [] x body (t ∷ xs) ys all inside e = inside xs ys (tail_of _ _ _ _ e)
each_name P (h ∷ hs) x body [] ys all inside e = let n : named h ≡ named x = head_of _ _ _ _ e in subst P (cc) (All-head P h hs all)
each_name P (h ∷ hs) x body (t ∷ xs) ys all inside e = each_name P hs x body xs ys (All-tail P h hs all) inside (tail_of _ _ _ _ e)

-- no refusal holds of a token of a header, a colon and the beginning of a formula within the limits
module _ (header : List (List ℕ)) (fine : Fine header) (some : 0 < length header) (body more : List Tok) (f : Tree) (spelled : body ++ more ≡ spell f) (declared : (x : List ℕ) (us vs : List Tok) → body ≡ us ++ (named x ∷ vs) → (i : ℕ) × Declared header x i) (few : rows_ended body ≤ 64) (xs : List Tok) (t : Tok) (ys : List Tok) (split : names header ++ (colon ∷ body) ≡ xs ++ (t ∷ ys)) where
  at_name : (x : List ℕ) → token t ≡ token (named x) → names header ++ (colon ∷ body) ≡ xs ++ (named x ∷ ys)
  at_name x e = let n : t ≡ named x = cc in split ∙ ap (λ u. xs ++ (u ∷ ys)) n

  before_name : (x : List ℕ) (hs : List (List ℕ)) → token t ≡ token (named x) → xs ≡ names hs → (gs : List (List ℕ)) × (header ≡ hs ++ (x ∷ gs)) × (length hs < length header)
  before_name x hs e e' =
      let b = header_front header hs x body ys (at_name x e ∙ ap (λ l. l ++ (named x ∷ ys)) e') in
      (b.0, b.1, omega (arith, ap length b.1 ∙ length-append hs (x ∷ b.0)))

  pub clean_body : (m : ℕ) → Wrong xs (token t) m → ⊥
  clean_body m (no_token n e) = one_zero (cc)
  clean_body m (out_of_place n w) = w.1 (
    ys ++ more,
    header,
    f,
    record {
      some_names = some;
      body = body ++ more;
      split = append_assoc xs (t ∷ []) (ys ++ more) ∙ sym (append_assoc xs (t ∷ ys) more) ∙ ap (λ l. l ++ more) (sym split) ∙ append_assoc (names header) (colon ∷ body) more;
      spells = subst (λ l. Spells l f) (sym spelled) (spells_spell f);
    },
  )
  clean_body m (long_name x n e over) =
      let short : length x ≤ 12 = each_name (λ y. length y ≤ 12) header x body xs ys fine.short (λ us vs b. let d = declared x us vs b in subst (λ y. length y ≤ 12) d.1.1 (fine.short d.0 [] d.1.0)) (at_name x e) in
      omega arith
  clean_body m (repeated_name x hs i n e e' d) =
      let b = before_name x hs e e' in
      fine.apart i (length hs) d.0 b.2 (ap (λ l. get_or l i []) b.1 ∙ get_or_append_left hs _ [] i d.0 ∙ d.1 ∙ sym (ap (λ l. get_or l (length hs) []) b.1 ∙ get_or_at hs x b.0 [] (length hs) refl))
  clean_body m (many_names x hs n e e' full) =
      let most = fine.few in
      omega (arith, (before_name x hs e e').2)
  clean_body m (undeclared_name x hs us n e e' none) =
      let s = names_same header hs body (us ++ (named x ∷ ys)) (at_name x e ∙ ap (λ l. l ++ (named x ∷ ys)) e' ∙ append_assoc (names hs) (colon ∷ us) (named x ∷ ys)) in
      let d = declared x us ys s.1 in
      none d.0 (subst (λ h. Declared h x d.0) s.0 d.1)
  clean_body m (many_rows u n e w) =
      let h : t ≡ u = cc in
      let s = names_same header w.header body (w.body ++ ys) (split ∙ ap (λ v. xs ++ (v ∷ ys)) h ∙ sym (append_assoc xs (u ∷ []) ys) ∙ ap (λ l. l ++ ys) w.split ∙ append_assoc (names w.header) (colon ∷ w.body) ys) in
      let r = rows_ended_before w.tree w.body w.more (spell_of w.spells) in
      let l = ended_more w.body ys in
      let over = w.over in
      let cut : rows_ended body ≡ rows_ended (w.body ++ ys) = ap rows_ended s.1 in
      omega arith

in_nil : {A : Type 0} (xs : List Tok) (t : Tok) (ys : List Tok) → [] ≡ xs ++ (t ∷ ys) → A
in_nil [] t ys e = one_zero (cc)
in_nil (x ∷ xs) t ys e = one_zero (cc)

pub clean_names : (header : List (List ℕ)) → Fine header → (xs : List Tok) (t : Tok) (ys : List Tok) → names header ≡ xs ++ (t ∷ ys) → (m : ℕ) → Wrong xs (token t) m → ⊥
clean_names [] fine xs t ys e m w = in_nil xs t ys e
clean_names (h ∷ hs) fine xs t ys e m w =
    clean_body (h ∷ hs) fine (omega arith) [] (constant true ∷ []) (truth true) refl (λ x us vs n. in_nil us (named x) vs n) (omega arith) xs t (ys ++ (colon ∷ [])) (ap (λ l. l ++ (colon ∷ [])) e ∙ append_assoc xs (t ∷ ys) (colon ∷ [])) m w

-- the token, if it is a name, is declared
abbrev Known : List (List ℕ) → Tok → Type 0
Known header (named x) = (i : ℕ) × Declared header x i
Known header colon = Unit {0}
Known header opens = Unit {0}
Known header closes = Unit {0}
Known header (constant b) = Unit {0}
Known header (unary o) = Unit {0}
Known header (binary o) = Unit {0}

apart_same : (header : List (List ℕ)) → Fine header → (x : List ℕ) (i j : ℕ) → Declared header x i → Declared header x j → i ≡ j
apart_same header fine x i j a b =
    let before : i < j → ⊥ = λ l. fine.apart i j l b.0 (a.1 ∙ sym b.1) in
    let after : j < i → ⊥ = λ l. fine.apart j i l a.0 (b.1 ∙ sym a.1) in
    omega arith

module _ (header : List (List ℕ)) where
  rows_known : (f : Tree) (k : ℕ) (rows : List Row) → Rows header k f rows → All (Known header) (spell f)
  rows_known (truth b) k rows r = each_one (Known header) (constant b) tt
  rows_known (name x) k rows r = each_one (Known header) (named x) (r.0, r.1)
  rows_known (under o a) k rows r = All-cons (Known header) (unary o) (spell a) tt (rows_known a k r.0 r.1)
  rows_known (pair o a b) k rows r =
      let closed = All-append (Known header) (spell b) (closes ∷ []) (rows_known b _ r.1 r.3) (each_one (Known header) closes tt) in
      let joined = All-cons (Known header) (binary o) (spell b ++ (closes ∷ [])) tt closed in
      All-cons (Known header) opens _ tt (All-append (Known header) (spell a) _ (rows_known a k r.0 r.2) joined)

  rows_length : (f : Tree) (k : ℕ) (rows : List Row) → Rows header k f rows → length rows ≡ size f
  rows_length (truth b) k rows r = ap length r
  rows_length (name x) k rows r = ap length r.2
  rows_length (under o a) k rows r = let i = rows_length a k r.0 r.1 in ap length r.2 ∙ simp length-append (omega arith)
  rows_length (pair o a b) k rows r =
      let i = rows_length a k r.0 r.2 in
      let j = rows_length b _ r.1 r.3 in
      ap length r.4 ∙ simp length-append (omega arith)

  rows_same : Fine header → (f : Tree) (k : ℕ) (rows rows' : List Row) → Rows header k f rows → Rows header k f rows' → rows ≡ rows'
  rows_same fine (truth b) k rows rows' r s = r ∙ sym s
  rows_same fine (name x) k rows rows' r s = r.2 ∙ ap (λ i. Signal i ∷ []) (apart_same header fine x r.0 s.0 r.1 s.1) ∙ sym s.2
  rows_same fine (under o a) k rows rows' r s =
      r.2 ∙ ap (λ xs. xs ++ (Unary o (k + length xs - 1) ∷ [])) (rows_same fine a k r.0 s.0 r.1 s.1) ∙ sym s.2
  rows_same fine (pair o a b) k rows rows' r s =
      let i : r.0 ≡ s.0 = rows_same fine a k r.0 s.0 r.2 s.2 in
      let j : r.1 ≡ s.1 = rows_same fine b _ r.1 s.1 (subst (λ xs. Rows header (k + length xs) b r.1) i r.3) s.3 in
      cc (r.4, s.4)

no_more : {A : Type 0} {t : Tok} → finish ≡ token t → A
no_more e = one_zero (cc)

-- no refusal holds of the end of a text
clean_end : {ts : List Tok} {header : List (List ℕ)} {f : Tree} {m : ℕ} → Text ts header f → Wrong ts finish m → ⊥
clean_end x (no_token n e) = one_zero (cc)
clean_end {header} {f} x (out_of_place n w) = w.1 header f x
clean_end x (long_name y n e l) = no_more e
clean_end x (repeated_name y h i n e e' d) = no_more e
clean_end x (many_names y h n e e' l) = no_more e
clean_end x (undeclared_name y h b n e e' d) = no_more e
clean_end x (many_rows t n e w) = no_more e

stands_alike : {text : List ℕ} {ts us : List Tok} {a b : Item} {m n : ℕ} → ts ≡ us → Stands text ts a m → Stands text us b n → (a ≡ b) × (m ≡ n)
stands_alike {text} {a} {m} e x y = stands_same (subst (λ l. Stands text l a m) e x) y

wrong_alike : {ts us : List Tok} {a b : Item} {m : ℕ} → ts ≡ us → a ≡ b → Wrong ts a m → Wrong us b m
wrong_alike {us} {a} {m} e f w = subst (λ i. Wrong us i m) f (subst (λ l. Wrong l a m) e w)

pub readable_not_refused : {text : List ℕ} {spans : List Span} {rows : List Row} {n place : ℕ} → Readable text spans rows → Refused text n place → ⊥
readable_not_refused {rows} {n} r q =
    let x = r.text_is in
    let spelled : x.body ≡ spell r.tree = spell_of x.spells in
    let known = rows_known r.header r.tree 0 rows r.laid in
    let long = rows_length r.header r.tree 0 rows r.laid in
    let ended : rows_ended x.body ≡ size r.tree = ap rows_ended spelled ∙ ended_begun (whole r.tree) in
    let few = r.few_rows in
    elim (stands_compare q.stands r.whole) [
      | inl e ↦ clean_end x (wrong_alike e (stands_alike e q.stands r.whole).0 q.wrong)
      | inr (inl g) ↦
          clean_body r.header r.fine x.some_names x.body [] r.tree (append-nil _ ∙ spelled)
          (λ y us vs e. each_at (Known r.header) us (named y) vs (subst (All (Known r.header)) (sym spelled ∙ e) known))
          (omega arith) q.before g.0 g.1 (sym x.split ∙ g.2) n (wrong_alike refl g.3 q.wrong)
      | inr (inr g) ↦ no_more g.3
    ]

-- a refusal's item is not among the tokens before another's
refused_first : {text : List ℕ} {m n a b : ℕ} (x : Refused text m a) (y : Refused text n b) → Further x.before x.item y.before → ⊥
refused_first {m} x y g = y.first x.before g.0 g.1 g.2 m (wrong_alike refl g.3 x.wrong)

pub refused_same : {text : List ℕ} {m n a b : ℕ} → Refused text m a → Refused text n b → (m ≡ n) × (a ≡ b)
refused_same {m} {n} x y = elim (stands_compare x.stands y.stands) [
  | inl e ↦
      let i = stands_alike e x.stands y.stands in
      let l = x.smallest n (wrong_alike (sym e) (sym i.0) y.wrong) in
      let g = y.smallest m (wrong_alike e i.0 x.wrong) in
      (omega arith, i.1)
  | inr (inl g) ↦ absurd (refused_first x y g)
  | inr (inr g) ↦ absurd (refused_first y x g)
]

text_same : {ts us : List Tok} {h g : List (List ℕ)} {a b : Tree} → ts ≡ us → Text ts h a → Text us g b → (h ≡ g) × (a ≡ b)
text_same {h} {g} {a} {b} e x y =
    let n = names_same h g x.body y.body (sym x.split ∙ e ∙ y.split) in
    (n.0, (same a b [] [] (ap (λ l. l ++ []) (sym (spell_of x.spells) ∙ n.1 ∙ spell_of y.spells))).0)

span_same : (a b : Span) → a.start ≡ b.start → a.len ≡ b.len → a ≡ b
span_same a b e f = ap {B = Span} (λ n. record { start = n; len = a.len }) e ∙ ap (λ n. record { start = b.start; len = n }) f

spans_same : {text : List ℕ} {header : List (List ℕ)} {spans spans' : List Span} → Spanned text header spans → Spanned text header spans' → spans ≡ spans'
spans_same {spans} {spans'} x y =
    let m = x.as_many in
    ext_get_or no_span spans spans' (m ∙ sym y.as_many) (λ i l. let h : i < _ = omega arith in span_same _ _ (stands_same (x.starts i h) (y.starts i h)).1 (x.lengths i h ∙ sym (y.lengths i h)))

pub readable_same : {text : List ℕ} {spans spans' : List Span} {rows rows' : List Row} → Readable text spans rows → Readable text spans' rows' → (spans ≡ spans') × (rows ≡ rows')
readable_same {text} {spans} {rows} {rows'} x y =
    let t : x.tokens ≡ y.tokens = elim (stands_compare x.whole y.whole) [ inl e ↦ e | inr (inl g) ↦ no_more g.3 | inr (inr g) ↦ no_more g.3 ] in
    let i = text_same t x.text_is y.text_is in (
      spans_same (subst (λ h. Spanned text h spans) i.0 x.spanned) y.spanned,
      rows_same y.header y.fine y.tree 0 rows rows' (subst (λ f. Rows y.header 0 f rows) i.1 (subst (λ h. Rows h 0 x.tree rows) i.0 x.laid)) y.laid,
    )

pub due_same : {text : List ℕ} {r n : ℕ} {a b : Outcome} → Due text r n a → Due text r n b → a ≡ b
due_same (short_strip s e) (short_strip s' f) = e ∙ sym f
due_same (short_strip s e) (long_text m l f) = absurd (s m)
due_same (short_strip s e) (faulty m l w f) = absurd (s m)
due_same (short_strip s e) (readable m l w f) = absurd (s m)
due_same (long_text m l e) (short_strip s f) = absurd (s m)
due_same (long_text m l e) (long_text m' l' f) = e ∙ sym f
due_same (long_text m l e) (faulty m' l' w f) = absurd (omega arith)
due_same (long_text m l e) (readable m' l' w f) = absurd (omega arith)
due_same (faulty m l w e) (short_strip s f) = absurd (s m)
due_same (faulty m l w e) (long_text m' l' f) = absurd (omega arith)
due_same (faulty m l w e) (faulty m' l' v f) = let i = refused_same w v in let p = i.0 in let q = i.1 in cc
due_same (faulty m l w e) (readable m' l' v f) = absurd (readable_not_refused v w)
due_same (readable m l w e) (short_strip s f) = absurd (s m)
due_same (readable m l w e) (long_text m' l' f) = absurd (omega arith)
due_same (readable m l w e) (faulty m' l' v f) = absurd (readable_not_refused w v)
due_same (readable m l w e) (readable m' l' v f) = let i = readable_same w v in let p = i.0 in let q = i.1 in cc
