-- What the readers answer of a whole text is what is due for it. Assumes nothing.
use Rattle.std.proofs.Common.{◌≡◌, ℕ, suc, ◌+◌, ◌<◌, ◌≤◌, true, List, [], ◌∷◌, ◌++◌, length, take, drop, set, Err, sym, refl, ap, ◌∙◌, subst, inl, inr, append_assoc, append-nil, arith, length-set}
use Rattle.std.specs.List.{All}
use Rattle.std.proofs.lemmas.List.{drop-set-lt, take_more_set}
use Rattle.rule.specs.declared.refusal.Fault.{Fault}
use Rattle.rule.specs.declared.refusal.Refusal.{Refusal}
use Rattle.rule.specs.declared.refusal.Refusal.TheVariants.{NoToken, OutOfPlace, LongName, UndeclaredName, UnfitRows}
use Rattle.rule.specs.Refusals.{number}
use Rattle.rule.specs.declared.row.Row.{Row}
use Rattle.text.specs.declared.cursor.Cursor.{Cursor}
use Rattle.text.specs.declared.span.Span.{Span}
use Rattle.text.specs.declared.span.Counts.{Counts}
use Rattle.text.specs.declared.formula.Done.{Done}
use Rattle.text.specs.Tokens.{Tok, named, colon, constant, Pos, Next, Ended, Stuck, Lex, Item, token, nothing, finish, At}
use Rattle.text.specs.Scanning.{pos_of}
use Rattle.text.specs.Grammar.{Tree, truth, Spells, names, Text, Completes, Declared, Rows}
use Rattle.text.specs.Texts as texts
use Rattle.text.specs.Texts.{Misplaced, ManyRows, Wrong, Refused, Fine}
use Rattle.text.specs.Begun.{spell, Part, spell_part, Begun, part, whole, spell_begun, ended_in, Alive, Dead, put}
use Rattle.rule.specs.Faults.{fault}
use Rattle.text.specs.Readers.{Good, Missing, no_token, early_end, unwanted, Why, missing, long_name, undeclared, many_rows, Broken, Formed, Admitted, Follows, begin, HeadWhy, cut_off, unfit_name, HeadBroken, HeadRead, EndTold, Told, TextRead}
use Rattle.text.proofs.Each.{each_at}
use Rattle.text.proofs.OneReading.{lex_append}
use Rattle.text.proofs.Spelling.{one_zero, head_of, tail_of, same, names_same, no_colon, names_alone, begun_alive, unfinished}
use Rattle.text.proofs.Counting.{spells_spell, spell_of, rows_ended, rows_ended_before, ended_begun}
use Rattle.text.proofs.OneOutcome.{clean_names, clean_body}
use Rattle.text.proofs.Formulas.{ends_lex, length_put}
use Rattle.text.proofs.Headers.{names_snoc}

-- n is the smallest of the refusals that hold, where each smaller one is ruled out
smallest_by : (ts : List Tok) (it : Item) (n : ℕ)
    → (it ≡ nothing → n ≤ 3)
    → (Misplaced ts it → n ≤ 4)
    → ((x : List ℕ) → it ≡ token (named x) → 12 < length x → n ≤ 5)
    → ((x : List ℕ) (header : List (List ℕ)) (i : ℕ) → it ≡ token (named x) → ts ≡ names header → Declared header x i → n ≤ 6)
    → ((x : List ℕ) (header : List (List ℕ)) → it ≡ token (named x) → ts ≡ names header → n ≤ 7)
    → ((x : List ℕ) (header : List (List ℕ)) (body : List Tok) → it ≡ token (named x) → ts ≡ names header ++ (colon ∷ body) → ((i : ℕ) → Declared header x i → ⊥) → n ≤ 8)
    → n ≤ 9
    → (m : ℕ) → Wrong ts it m → n ≤ m
smallest_by ts it n no3 no4 no5 no6 no7 no8 le m (texts.no_token e i) = let k = no3 i in omega arith
smallest_by ts it n no3 no4 no5 no6 no7 no8 le m (texts.out_of_place e w) = let k = no4 w in omega arith
smallest_by ts it n no3 no4 no5 no6 no7 no8 le m (texts.long_name x e i lt) = let k = no5 x i lt in omega arith
smallest_by ts it n no3 no4 no5 no6 no7 no8 le m (texts.repeated_name x header i e is t d) = let k = no6 x header i is t d in omega arith
smallest_by ts it n no3 no4 no5 no6 no7 no8 le m (texts.many_names x header e is t lt) = let k = no7 x header is t in omega arith
smallest_by ts it n no3 no4 no5 no6 no7 no8 le m (texts.undeclared_name x header body e is t d) = let k = no8 x header body is t d in omega arith
smallest_by ts it n no3 no4 no5 no6 no7 no8 le m (texts.many_rows t e is w) = omega arith

-- the kinds of item differ
no_nothing : {A : Type 0} (t : Tok) → token t ≡ nothing → A
no_nothing t e = one_zero (cc)

finish_nothing : {A : Type 0} → finish ≡ nothing → A
finish_nothing e = one_zero (cc)

token_of : (t u : Tok) → token t ≡ token u → t ≡ u
token_of t u e = cc

named_of : (x y : List ℕ) → token (named x) ≡ token (named y) → x ≡ y
named_of x y e = cc

told : {text : List ℕ} {e : Fault} {r : Refusal} {place : ℕ} → e ≡ fault r place → Refused text (number r) place → Told text e
told {text} is due = subst (Told text) (sym is) (record { due = due; no_sample = refl })

-- texts by the spelling of their formulas

text_spell : {ts : List Tok} {header : List (List ℕ)} {f : Tree} → Text ts header f → ts ≡ names header ++ (colon ∷ spell f)
text_spell {header} t = t.split ∙ ap (λ l. names header ++ (colon ∷ l)) (spell_of t.spells)

text_of : (header : List (List ℕ)) (f : Tree) (ts : List Tok) → 0 < length header → ts ≡ names header ++ (colon ∷ spell f) → Text ts header f
text_of header f ts some e = record { some_names = some; body = spell f; split = e; spells = spells_spell f }

some_snoc : (hs : List (List ℕ)) (x : List ℕ) → 0 < length (hs ++ (x ∷ []))
some_snoc [] x = omega arith
some_snoc (h ∷ hs) x = omega arith

completes_named : (hs : List (List ℕ)) (x : List ℕ) → Completes (names hs ++ (named x ∷ []))
completes_named hs x =
    (colon ∷ constant true ∷ [], hs ++ (x ∷ []), truth true, text_of (hs ++ (x ∷ [])) (truth true) _ (some_snoc hs x) (ap (λ l. l ++ (colon ∷ constant true ∷ [])) (sym (names_snoc hs x))))

completes_front : (ts us : List Tok) → Completes (ts ++ us) → Completes ts
completes_front ts us c = (us ++ c.0, c.1, c.2, subst (λ l. Text l c.1 c.2) (append_assoc ts us c.0) c.3)

completes_names : (hs : List (List ℕ)) → Completes (names hs)
completes_names hs = completes_front (names hs) (named (97 ∷ []) ∷ []) (completes_named hs (97 ∷ []))

completes_body : (hs : List (List ℕ)) (ts : List Tok) → 0 < length hs → Alive ts → Completes (names hs ++ (colon ∷ ts))
completes_body hs ts some a = (a.0, hs, a.1, text_of hs a.1 _ some (append_assoc (names hs) _ a.0 ∙ ap (λ l. names hs ++ (colon ∷ l)) a.2))

-- the header

-- after k names that are read, only a name or a colon can follow
follows : (hs gs : List (List ℕ)) (k : ℕ) (x : List Tok) (t : Tok) (u : List Tok) → 0 < k + length gs → (names hs ++ (t ∷ [])) ++ u ≡ names gs ++ (colon ∷ x) → Follows (k + length hs) t
follows [] [] k x t u some e = subst (Follows (k + 0)) (sym (head_of _ _ _ _ e)) (omega arith)
follows [] (g ∷ gs) k x t u some e = subst (Follows (k + 0)) (sym (head_of _ _ _ _ e)) tt
follows (h ∷ hs) [] k x t u some e = one_zero (cc)
follows (h ∷ hs) (g ∷ gs) k x t u some e = subst (λ n. Follows n t) (let z : k + 1 + length hs ≡ k + suc (length hs) = omega arith in z) (follows hs gs (k + 1) x t u (omega arith) (tail_of _ _ _ _ e))

hopeless_names : (hs : List (List ℕ)) (t : Tok) → (Follows (length hs) t → ⊥) → Completes (names hs ++ (t ∷ [])) → ⊥
hopeless_names hs t no' c =
    let some = c.3.some_names in
    no' (subst (λ n. Follows n t) (let z : 0 + length hs ≡ length hs = omega arith in z) (follows hs c.1 0 (spell c.2) t c.0 (omega arith) (text_spell c.3)))

module _ (text : List ℕ) (hs : List (List ℕ)) (fine : Fine hs) (stop : Pos) (read : Lex (begin text) (names hs) stop) where
  at_head : (it : Item) (place n : ℕ) → At stop it place → Wrong (names hs) it n → ((m : ℕ) → Wrong (names hs) it m → n ≤ m) → Refused text n place
  at_head it place n here wrong smallest = record {
    before = names hs;
    item = it;
    stands = record { after = stop; read = read; here = here };
    wrong = wrong;
    smallest = smallest;
    first = clean_names hs fine;
  }

  head_missing : (e : Fault) → Missing (λ t. Follows (length hs) t → ⊥) stop e → Told text e
  head_missing e (no_token place is s) = told is (at_head nothing place 3 s (texts.no_token refl refl) (smallest_by (names hs) nothing 3 (λ z. omega arith) (λ z. omega arith) (λ x z w. omega arith) (λ x h i z w d. omega arith) (λ x h z w. omega arith) (λ x h b z w d. omega arith) (omega arith)))
  head_missing e (early_end place is h) = told is (at_head finish place 4 h (texts.out_of_place refl (completes_names hs, λ gs f t. no_colon hs gs (spell f) (text_spell t))) (smallest_by (names hs) finish 4 finish_nothing (λ z. omega arith) (λ x z w. omega arith) (λ x h i z w d. omega arith) (λ x h z w. omega arith) (λ x h b z w d. omega arith) (omega arith)))
  head_missing e (unwanted place t m is s no') = told is (at_head (token t) place 4 (m, s) (texts.out_of_place refl (completes_names hs, hopeless_names hs t no')) (smallest_by (names hs) (token t) 4 (no_nothing t) (λ z. omega arith) (λ x z w. omega arith) (λ x h i z w d. omega arith) (λ x h z w. omega arith) (λ x h b z w d. omega arith) (omega arith)))

  module _ (x : List ℕ) (m : Pos) (place : ℕ) (s : Next stop (named x) place m) where
    not_misplaced : {A : Type 0} → Misplaced (names hs) (token (named x)) → A
    not_misplaced w = absurd (w.1 (completes_named hs x))

    not_long : {A : Type 0} → length x ≤ 12 → (y : List ℕ) → token (named x) ≡ token (named y) → 12 < length y → A
    not_long le y e lt = let k = ap length (named_of x y e) in absurd (omega arith)

    not_repeated : {A : Type 0} → ((i : ℕ) → Declared hs x i → ⊥) → (y : List ℕ) (gs : List (List ℕ)) (i : ℕ) → token (named x) ≡ token (named y) → names hs ≡ names gs → Declared gs y i → A
    not_repeated none y gs i e f d = absurd (none i (subst (λ l. Declared l x i) (sym (names_alone hs gs f)) (subst (λ z. Declared gs z i) (sym (named_of x y e)) d)))

    head_unfit : (e : Fault) → Admitted hs x place (Err e) → Told text e
    head_unfit e (inl h) = told h.0 (at_head (token (named x)) place 5 (m, s) (texts.long_name x refl refl h.1) (smallest_by (names hs) (token (named x)) 5 (no_nothing _) not_misplaced (λ y z w. omega arith) (λ y g i z w d. omega arith) (λ y g z w. omega arith) (λ y g b z w d. omega arith) (omega arith)))
    head_unfit e (inr (inl h)) = told h.0 (at_head (token (named x)) place 6 (m, s) (texts.repeated_name x hs h.2.0 refl refl refl h.2.1) (smallest_by (names hs) (token (named x)) 6 (no_nothing _) not_misplaced (not_long h.1) (λ y g i z w d. omega arith) (λ y g z w. omega arith) (λ y g b z w d. omega arith) (omega arith)))
    head_unfit e (inr (inr h)) = let full = h.3 in told h.0 (at_head (token (named x)) place 7 (m, s) (texts.many_names x hs refl refl refl (omega arith)) (smallest_by (names hs) (token (named x)) 7 (no_nothing _) not_misplaced (not_long h.1) (not_repeated h.2) (λ y g z w. omega arith) (λ y g b z w d. omega arith) (omega arith)))

  head_why : (e : Fault) → HeadWhy hs stop e → Told text e
  head_why e (cut_off h) = head_missing e h
  head_why e (unfit_name place x m s h) = head_unfit x m place s e h

pub head_told : (text : List ℕ) (e : Fault) → HeadBroken text e → Told text e
head_told text e h = head_why text h.hs h.fine h.stop h.read e h.why

-- the formula

hopeless_body : (hs : List (List ℕ)) (ts : List Tok) → Dead ts → Completes (names hs ++ (colon ∷ ts)) → ⊥
hopeless_body hs ts dead c =
    let i = names_same hs c.1 (ts ++ c.0) (spell c.2) (sym (append_assoc (names hs) (colon ∷ ts) c.0) ∙ text_spell c.3) in
    dead c.0 [] c.2 (i.1 ∙ sym (append-nil (spell c.2)))

-- what is read so far: the header and the tokens `body` of a formula, and then reading stands at `stop`
module _ (text : List ℕ) (hs : List (List ℕ)) (fine : Fine hs) (some : 0 < length hs) (body : List Tok) (stop : Pos) (read : Lex (begin text) (names hs ++ (colon ∷ body)) stop) (good : All (Good hs) body) (alive : Alive body) (few : rows_ended body ≤ 64) where
  so_far : List Tok
  so_far = names hs ++ (colon ∷ body)

  one_on : (t : Tok) → so_far ++ (t ∷ []) ≡ names hs ++ (colon ∷ (body ++ (t ∷ [])))
  unfolding so_far
  one_on t = append_assoc (names hs) (colon ∷ body) (t ∷ [])

  declared : (x : List ℕ) (us vs : List Tok) → body ≡ us ++ (named x ∷ vs) → (i : ℕ) × Declared hs x i
  declared x us vs e = (each_at (Good hs) us (named x) vs (subst (All (Good hs)) e good)).1

  at_body : (it : Item) (place n : ℕ) → At stop it place → Wrong so_far it n → ((m : ℕ) → Wrong so_far it m → n ≤ m) → Refused text n place
  unfolding so_far
  at_body it place n here wrong smallest = record {
    before = so_far;
    item = it;
    stands = record { after = stop; read = read; here = here };
    wrong = wrong;
    smallest = smallest;
    first = clean_body hs fine some body alive.0 alive.1 alive.2 declared few;
  }

  completes_so_far : Completes so_far
  unfolding so_far
  completes_so_far = completes_body hs body some alive

  -- a name here is not in the header
  not_in_header : {A : Type 0} (gs : List (List ℕ)) → so_far ≡ names gs → A
  unfolding so_far
  not_in_header gs e = no_colon gs hs body (sym e)

  stuck_told : (e : Fault) (place : ℕ) → e ≡ fault NoToken place → Stuck stop place → Told text e
  stuck_told e place is s = told is (at_body nothing place 3 s (texts.no_token refl refl) (smallest_by so_far nothing 3 (λ z. omega arith) (λ z. omega arith) (λ x z w. omega arith) (λ x h i z w d. omega arith) (λ x h z w. omega arith) (λ x h b z w d. omega arith) (omega arith)))

  end_told : (e : Fault) (place : ℕ) → e ≡ fault OutOfPlace place → Ended stop place → ((gs : List (List ℕ)) (f : Tree) → Text so_far gs f → ⊥) → Told text e
  end_told e place is h not_text = told is (at_body finish place 4 h (texts.out_of_place refl (completes_so_far, not_text)) (smallest_by so_far finish 4 finish_nothing (λ z. omega arith) (λ x z w. omega arith) (λ x g i z w d. omega arith) (λ x g z w. omega arith) (λ x g b z w d. omega arith) (omega arith)))

  token_told : (e : Fault) (place : ℕ) (t : Tok) (m : Pos) → e ≡ fault OutOfPlace place → Next stop t place m → (Completes (so_far ++ (t ∷ [])) → ⊥) → Told text e
  token_told e place t m is s hopeless = told is (at_body (token t) place 4 (m, s) (texts.out_of_place refl (completes_so_far, hopeless)) (smallest_by so_far (token t) 4 (no_nothing t) (λ z. omega arith) (λ x z w. omega arith) (λ x g i z w d. omega arith) (λ x g z w. omega arith) (λ x g b z w d. omega arith) (omega arith)))

  module _ (t : Tok) (m : Pos) (place : ℕ) (s : Next stop t place m) (goes_on : Alive (body ++ (t ∷ []))) where
    not_out_of_place : {A : Type 0} → Misplaced so_far (token t) → A
    not_out_of_place w = absurd (w.1 (subst Completes (sym (one_on t)) (completes_body hs (body ++ (t ∷ [])) some goes_on)))

    long_told : (e : Fault) (x : List ℕ) → e ≡ fault LongName place → t ≡ named x → 12 < length x → Told text e
    long_told e x is name_is lt = told is (at_body (token t) place 5 (m, s) (texts.long_name x refl (ap token name_is) lt) (smallest_by so_far (token t) 5 (no_nothing t) not_out_of_place (λ y z w. omega arith) (λ y g i z w d. omega arith) (λ y g z w. omega arith) (λ y g b z w d. omega arith) (omega arith)))

    undeclared_told : (e : Fault) (x : List ℕ) → e ≡ fault UndeclaredName place → t ≡ named x → length x ≤ 12 → ((i : ℕ) → Declared hs x i → ⊥) → Told text e
    unfolding so_far
    undeclared_told e x is name_is le none = told is (at_body (token t) place 8 (m, s) (texts.undeclared_name x hs body refl (ap token name_is) refl none) (smallest_by so_far (token t) 8 (no_nothing t) not_out_of_place (λ y z w. let k = ap length (named_of x y (ap token (sym name_is) ∙ z)) in absurd (omega arith)) (λ y g i z w d. not_in_header g w) (λ y g z w. not_in_header g w) (λ y g b z w d. omega arith) (omega arith)))

    rows_told : (e : Fault) (b : Begun) → e ≡ fault UnfitRows place → Good hs t → body ++ (t ∷ []) ≡ spell_begun b → 64 < ended_in b → Told text e
    unfolding so_far
    rows_told e b is fit spelled over =
        let counted : rows_ended (body ++ (t ∷ [])) ≡ ended_in b = ap rows_ended spelled ∙ ended_begun b in
        let all_ended_before = rows_ended_before goes_on.1 (body ++ (t ∷ [])) goes_on.0 goes_on.2 in
        told is (at_body (token t) place 9 (m, s)
        (texts.many_rows t refl refl (record { header = hs; body = body ++ (t ∷ []); split = one_on t; more = goes_on.0; tree = goes_on.1; spells = subst (λ l. Spells l goes_on.1) (sym goes_on.2) (spells_spell goes_on.1); over = omega arith }))
        (smallest_by so_far (token t) 9 (no_nothing t) not_out_of_place
        (λ y z w. let g = subst (Good hs) (token_of t (named y) z) fit in let k = g.0 in absurd (omega arith))
        (λ y g i z w d. not_in_header g w)
        (λ y g z w. not_in_header g w)
        (λ y g us z w d. let f = subst (Good hs) (token_of t (named y) z) fit in let same_names = (names_same hs g body us w).0 in absurd (d f.1.0 (subst (λ l. Declared l y f.1.0) same_names f.1.1)))
        (omega arith)))

  formula_why : (e : Fault) (p : Part) → body ≡ spell_part p → Why hs 64 0 body stop e → Told text e
  unfolding so_far
  formula_why e p is_part (missing (no_token place is s)) = stuck_told e place is s
  formula_why e p is_part (missing (early_end place is h)) = end_told e place is h (λ gs f t. unfinished p f (sym is_part ∙ (names_same hs gs body (spell f) (text_spell t)).1))
  formula_why e p is_part (missing (unwanted place t m is s dead)) = token_told e place t m is s (λ c. hopeless_body hs (body ++ (t ∷ [])) dead (subst Completes (one_on t) c))
  formula_why e p is_part (long_name place x m is s goes_on lt) = long_told (named x) m place s goes_on e x is refl lt
  formula_why e p is_part (undeclared place x m is s goes_on le none) = undeclared_told (named x) m place s goes_on e x is refl le none
  formula_why e p is_part (many_rows place t m b is s fit spelled over) = rows_told t m place s (subst Alive (sym spelled) (begun_alive b)) e b is fit spelled (omega arith)

  -- after the whole formula
  whole_why : (e : Fault) (f : Tree) (from : Cursor) → pos_of from ≡ stop → body ≡ spell f → EndTold from (Err e) → Told text e
  unfolding so_far
  whole_why e f from is_stop is_whole (inl h) = stuck_told e h.0 h.1 (subst (λ q. Stuck q h.0) is_stop h.2)
  whole_why e f from is_stop is_whole (inr h) = token_told e h.0 h.1 h.2 h.3 (subst (λ q. Next q h.1 h.0 h.2) is_stop h.4) (λ c. too_long c)
    where
      too_long : Completes (so_far ++ (h.1 ∷ [])) → ⊥
      too_long c =
          let i = names_same hs c.1 ((body ++ (h.1 ∷ [])) ++ c.0) (spell c.2) (sym (append_assoc (names hs) (colon ∷ (body ++ (h.1 ∷ []))) c.0) ∙ ap (λ l. l ++ c.0) (sym (one_on h.1)) ∙ text_spell c.3) in
          let k = same f c.2 (h.1 ∷ c.0) [] (sym (append_assoc (spell f) (h.1 ∷ []) c.0) ∙ ap (λ l. (l ++ (h.1 ∷ [])) ++ c.0) (sym is_whole) ∙ i.1 ∙ sym (append-nil (spell c.2))) in
          let z : h.1 ∷ c.0 ≡ [] = k.1 in
          one_zero (cc)

-- a header that is read, and then the tokens ts
after_head : {text : List ℕ} {old new : List Span} {n : ℕ} {from : Cursor} (h : HeadRead text old new n from) (ts : List Tok) (q : Pos) → Lex (pos_of from) ts q → Lex (begin text) (names h.headed.hs ++ (colon ∷ ts)) q
after_head {text} {from} h ts q l = lex_append (begin text) h.last q (names h.headed.hs) (colon ∷ ts) h.headed.read (h.place, pos_of from, h.colon_is, l)

some_names : {text : List ℕ} {old new : List Span} {n : ℕ} {from : Cursor} (h : HeadRead text old new n from) → 0 < length h.headed.hs
some_names h = let a = h.some in let b = h.headed.count in omega arith

pub formula_told : {text : List ℕ} {old new : List Span} {n : ℕ} {from : Cursor} (h : HeadRead text old new n from) (e : Fault) → Broken h.headed.hs 64 0 [] (pos_of from) e → Told text e
formula_told {text} h e r =
    let room = r.room in
    let counted = ap rows_ended r.spelled ∙ ended_begun (part r.begun) in
    formula_why text h.headed.hs h.headed.fine (some_names h) r.toks r.stop (after_head h r.toks r.stop r.read) r.good (subst Alive (sym r.spelled) (begun_alive (part r.begun))) (omega arith) e r.begun r.spelled r.why

pub whole_told : {text : List ℕ} {old new : List Span} {n : ℕ} {from : Cursor} (h : HeadRead text old new n from) {s s' : List Row} {d : Done} {m : ℕ} (r : Formed h.headed.hs [] (pos_of from) s 0 d s' m) → length s ≡ 64 → (e : Fault) → EndTold d.after (Err e) → Told text e
whole_told {text} h {d} r cap e w =
    let a = r.filled in
    let b = r.sized in
    let c = r.fits in
    let counted = ap rows_ended r.spelled ∙ ended_begun (whole r.tree) in
    whole_why text h.headed.hs h.headed.fine (some_names h) r.toks (pos_of d.after) (after_head h r.toks (pos_of d.after) (ends_lex r.ends)) r.good (subst Alive (sym r.spelled) (begun_alive (whole r.tree))) (omega arith) e r.tree d.after refl r.spelled w

-- a text that is read

take_put : {X : Type 0} (s : List X) (k : ℕ) (rs : List X) → k + length rs ≤ length s → take (k + length rs) (put s k rs) ≡ take k s ++ rs
take_put s k [] le = ap (λ n. take n s) (let e : k + 0 ≡ k = omega arith in e) ∙ sym (append-nil (take k s))
take_put s k (r ∷ rs) le =
    let l = length-set s k r in
    ap (λ n. take n (put (set s k r) (k + 1) rs)) (let e : k + suc (length rs) ≡ k + 1 + length rs = omega arith in e)
    ∙ take_put (set s k r) (k + 1) rs (omega arith)
    ∙ ap (λ l. l ++ rs) (take_more_set s k r (omega arith))
    ∙ append_assoc (take k s) (r ∷ []) rs

drop_put : {X : Type 0} (s : List X) (k : ℕ) (rs : List X) → drop (k + length rs) (put s k rs) ≡ drop (k + length rs) s
drop_put s k [] = refl
drop_put s k (r ∷ rs) =
    let e : k + suc (length rs) ≡ k + 1 + length rs = omega arith in
    ap (λ n. drop n (put (set s k r) (k + 1) rs)) e ∙ drop_put (set s k r) (k + 1) rs ∙ drop-set-lt (k + 1 + length rs) s k r (omega arith) ∙ ap (λ n. drop n s) (sym e)

pub text_read : {text : List ℕ} {old new : List Span} {n : ℕ} {from : Cursor} (h : HeadRead text old new n from) {s s' : List Row} {d : Done} {m : ℕ} (r : Formed h.headed.hs [] (pos_of from) s 0 d s' m) → length s ≡ 64 → length old ≡ 16 → (place : ℕ) → Ended (pos_of d.after) place → TextRead text s s' old new (record { names = n; rows = m })
text_read {n} h {s} {s'} {d} {m} r cap_rows cap_names place w =
    let f = h.headed in
    let many : m ≡ 0 + length r.rows = r.filled in
    let fits = r.fits in
    let laid : take m s' ≡ r.rows = ap (take m) r.strip ∙ ap (λ k. take k (put s 0 r.rows)) many ∙ take_put s 0 r.rows (omega arith) in
    let few = f.fine.few in
    let count = f.count in
    let long = f.long in
    record {
      readable = record {
        tokens = names f.hs ++ (colon ∷ r.toks);
        header = f.hs;
        tree = r.tree;
        text_is = text_of f.hs r.tree _ (some_names h) (ap (λ l. names f.hs ++ (colon ∷ l)) r.spelled);
        stop = place;
        whole = record { after = pos_of d.after; read = after_head h r.toks (pos_of d.after) (ends_lex r.ends); here = w };
        fine = f.fine;
        laid = subst (Rows f.hs 0 r.tree) (sym laid) r.laid;
        few_rows = subst (λ l. length l ≤ 64) (sym laid) (omega arith);
        spanned = f.spanned;
      };
      rows_filled = record { at_most = omega arith; same_length = ap length r.strip ∙ length_put s 0 r.rows; others_kept = ap (drop m) r.strip ∙ ap (λ k. drop k (put s 0 r.rows)) many ∙ drop_put s 0 r.rows ∙ ap (λ k. drop k s) (sym many) };
      names_filled = record { at_most = omega arith; same_length = omega arith; others_kept = f.kept };
    }

-- the strips that were lent hold what was laid in them
pub read_lent : {text : List ℕ} {rows rows' lent_rows : List Row} {spans spans' lent_spans : List Span} {c : Counts} → lent_rows ≡ rows' → lent_spans ≡ spans' → TextRead text rows rows' spans spans' c → TextRead text rows lent_rows spans lent_spans c
read_lent e f r = rw (e, f) r
