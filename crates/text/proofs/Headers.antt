-- What the reader of headers answers, name by name. Assumes nothing.
use Rattle.std.proofs.Common.{◌≡◌, ℕ, ◌+◌, ◌<◌, ◌≤◌, List, [], ◌∷◌, ◌++◌, length, get_or, take, drop, set, Some, None, Err, Option, MatchOption, ◌≢◌, inr, sym, refl, ap, ◌∙◌, subst, ⊎_elim, arith, length-append, length-set}
use lib.Seq.{take-append-le}
use Rattle.std.specs.List.{All, AllWithin, HoldsAt}
use Rattle.std.proofs.lemmas.List.Elements.{All-push}
use Rattle.std.proofs.str.Laws.{order}
use Rattle.std.proofs.lemmas.List.{map-append, length-map, get_or-map, take_at, drop_at, drop-drop, drop-set-lt, take_more_set, get_or_push, get_or_append_left}
use Rattle.rule.specs.declared.refusal.Fault.{Fault}
use Rattle.rule.specs.declared.refusal.Refusal.TheVariants.{ManyNames}
use Rattle.rule.specs.Faults.{fault}
use Rattle.text.specs.declared.span.Span.{Span}
use Rattle.text.specs.Tokens.{named, Pos, Next, Lex, token, Stands}
use Rattle.text.specs.Grammar.{names, Declared}
use Rattle.text.specs.Texts.{Fine, no_span, Spanned}
use Rattle.text.specs.Strips.{LaidTold}
use Rattle.text.specs.Readers.{Missing, name_at, names_in, SoughtIn, Admitted, begin, Follows, cut_off, unfit_name, HeadBroken, Headed}
use Rattle.text.proofs.OneReading.{lex_append}
use Rattle.text.proofs.Formulas.{lex_upto, step_onto, missing_as}

-- the first name that is the one sought
pub sought : (text : List ℕ) (ns : List Span) (x : List ℕ) (r : Option ℕ) → MatchOption r (AllWithin (λ n. name_at text n ≢ x) ns 0 (length ns)) (λ i. (i < length ns) × HoldsAt (λ n. name_at text n ≡ x) ns i × AllWithin (λ n. name_at text n ≢ x) ns 0 i) → SoughtIn (names_in text ns) x r
sought text ns x (Some i) h =
    let long = length-map ns (name_at text) in
    (omega (arith, h.0), get_or-map (name_at text) ns i no_span [] h.0 ∙ h.1 no_span)
sought text ns x None h =
    let long = length-map ns (name_at text) in
    λ i d.
    let lt : i < length ns = omega (arith, d.0) in
    h i no_span (omega arith) lt (sym (get_or-map (name_at text) ns i no_span [] lt) ∙ d.1)

pub names_snoc : (hs : List (List ℕ)) (x : List ℕ) → names (hs ++ (x ∷ [])) ≡ names hs ++ (named x ∷ [])
names_snoc [] x = refl
names_snoc (h ∷ hs) x = ap (λ l. named h ∷ l) (names_snoc hs x)

-- a name's bytes stand in the text at its place
stands_in : (text : List ℕ) (p q : Pos) (x : List ℕ) (place : ℕ) → p.rest ≡ drop p.at text → Next p (named x) place q → drop place text ≡ x ++ q.rest
stands_in text p q x place h s =
    ap (λ n. drop n text) s.placed ∙ sym (drop-drop (length s.gap) p.at text) ∙ ap (λ l. drop (length s.gap) l) (sym h ∙ s.split) ∙ drop_at s.gap s.here _ refl ∙ s.begins.split

apart_snoc : (hs : List (List ℕ)) (x : List ℕ) → Fine hs → ((i : ℕ) → Declared hs x i → ⊥) → (i j : ℕ) → i < j → j < length (hs ++ (x ∷ [])) → get_or (hs ++ (x ∷ [])) i [] ≡ get_or (hs ++ (x ∷ [])) j [] → ⊥
apart_snoc hs x f no' i j lt in' e =
    let n = length-append hs (x ∷ []) in
    ⊎_elim
    (λ h. f.apart i j lt h (sym (get_or_append_left hs _ [] i (omega arith)) ∙ e ∙ get_or_append_left hs _ [] j h))
    (λ h. let same : length hs ≡ j = omega arith in no' i (omega arith, sym (get_or_append_left hs _ [] i (omega arith)) ∙ e ∙ get_or_push hs x [] j same))
    (order j (length hs))

module _ (text : List ℕ) (hs : List (List ℕ)) (x : List ℕ) (spans : List Span) (r : Span) (sp : Spanned text hs spans) where
  -- a place is one of the old ones, or the new one
  at_snoc : (P : ℕ → Type 0) → ((i : ℕ) → i < length hs → P i) → P (length hs) → (i : ℕ) → i < length (hs ++ (x ∷ [])) → P i
  at_snoc P old new i lt =
      let n = length-append hs (x ∷ []) in
      ⊎_elim (λ h. old i h) (λ h. subst P (let z : length hs ≡ i = omega arith in z) new) (order i (length hs))

  spanned_snoc : Stands text (names hs) (token (named x)) r.start → r.len ≡ length x → Spanned text (hs ++ (x ∷ [])) (spans ++ (r ∷ []))
  spanned_snoc st ln =
      let many = sp.as_many in
      let a = length-append hs (x ∷ []) in
      let b = length-append spans (r ∷ []) in
      let name_old : (i : ℕ) → i < length hs → get_or (hs ++ (x ∷ [])) i [] ≡ get_or hs i [] = λ i h. get_or_append_left hs _ [] i h in
      let name_new : get_or (hs ++ (x ∷ [])) (length hs) [] ≡ x = get_or_push hs x [] (length hs) refl in
      let span_old : (i : ℕ) → i < length hs → get_or (spans ++ (r ∷ [])) i no_span ≡ get_or spans i no_span = λ i h. get_or_append_left spans _ no_span i (omega arith) in
      let span_new : get_or (spans ++ (r ∷ [])) (length hs) no_span ≡ r = get_or_push spans r no_span (length hs) many in
      let Starts : ℕ → Type 0 = λ i. Stands text (names (take i (hs ++ (x ∷ [])))) (token (named (get_or (hs ++ (x ∷ [])) i []))) (get_or (spans ++ (r ∷ [])) i no_span).start in
      let Lengths : ℕ → Type 0 = λ i. (get_or (spans ++ (r ∷ [])) i no_span).len ≡ length (get_or (hs ++ (x ∷ [])) i []) in
      record {
        as_many = omega arith;
        starts = at_snoc Starts
            (λ i h. subst (λ l. Stands text (names l) (token (named (get_or (hs ++ (x ∷ [])) i []))) (get_or (spans ++ (r ∷ [])) i no_span).start) (sym (take-append-le i hs (x ∷ []) (omega arith)))
            (subst (λ l. Stands text (names (take i hs)) (token (named l)) (get_or (spans ++ (r ∷ [])) i no_span).start) (sym (name_old i h))
            (subst (λ (s : Span). Stands text (names (take i hs)) (token (named (get_or hs i []))) s.start) (sym (span_old i h)) (sp.starts i h))))
            (subst (λ l. Stands text (names l) (token (named (get_or (hs ++ (x ∷ [])) (length hs) []))) (get_or (spans ++ (r ∷ [])) (length hs) no_span).start) (sym (take_at hs (x ∷ []) (length hs) refl))
            (subst (λ l. Stands text (names hs) (token (named l)) (get_or (spans ++ (r ∷ [])) (length hs) no_span).start) (sym name_new)
            (subst (λ (s : Span). Stands text (names hs) (token (named x)) s.start) (sym span_new) st)));
        lengths = at_snoc Lengths
            (λ i h. ap (λ (s : Span). s.len) (span_old i h) ∙ sp.lengths i h ∙ ap length (sym (name_old i h)))
            (ap (λ (s : Span). s.len) span_new ∙ ln ∙ ap length (sym name_new));
      }

pub one_more : (text : List ℕ) (old new : List Span) (n : ℕ) (p q : Pos) (x : List ℕ) (place : ℕ) → (f : Headed text old new n p) → Next p (named x) place q → length x ≤ 12 → ((i : ℕ) → Declared f.hs x i → ⊥) → (length f.hs ≡ 16 → ⊥) → Headed text old (set new n (record { start = place; len = length x })) (n + 1) q
one_more text old new n p q x place f s short no' room =
    let r : Span = record { start = place; len = length x } in
    let st = stands_in text p q x place f.here s in
    let up = lex_upto (begin text) (names f.hs) p f.read in
    let on = step_onto p (named x) place q s in
    let few = f.fine.few in
    let cnt = f.count in
    let lng = f.long in
    let tot = up.total in
    let tot2 = on.total in
    let onw = s.onward in
    let lt : n < length new = omega arith in
    let tk = take_more_set new n r lt in
    let la = length-append f.hs (x ∷ []) in
    let dr : drop (n + 1) new ≡ drop (n + 1) old = sym (drop-drop 1 n new) ∙ ap (λ l. drop 1 l) f.kept ∙ drop-drop 1 n old in
    record {
      hs = f.hs ++ (x ∷ []);
      fine = record { few = omega arith; short = All-push (λ y. length y ≤ 12) f.hs x f.fine.short short; apart = apart_snoc f.hs x f.fine no' };
      read = subst (λ l. Lex (begin text) l q) (sym (names_snoc f.hs x)) (lex_append (begin text) p q (names f.hs) _ f.read (place, q, s, refl));
      count = omega arith;
      names_are = ap (names_in text) tk ∙ map-append (name_at text) (take n new) (r ∷ []) ∙ ap (λ l. l ++ (name_at text r ∷ [])) f.names_are ∙ ap (λ l. f.hs ++ (l ∷ [])) (ap (take (length x)) st ∙ take_at x q.rest _ refl);
      inside = subst (All (λ y. y.start + y.len ≤ length text)) (sym tk) (All-push (λ y. y.start + y.len ≤ length text) (take n new) r f.inside (omega arith));
      spanned = subst (Spanned text (f.hs ++ (x ∷ []))) (sym tk) (spanned_snoc text f.hs x (take n new) r f.spanned (record { after = p; read = f.read; here = (q, s) }) refl);
      kept = drop-set-lt (n + 1) new n r (omega arith) ∙ dr;
      here = sym (ap (λ m. drop m text) onw ∙ sym (drop-drop (length x) place text) ∙ ap (drop (length x)) st ∙ drop_at x q.rest _ refl);
      long = length-set new n r ∙ lng;
    }

module _ (text : List ℕ) (old new : List Span) (n : ℕ) (p : Pos) (f : Headed text old new n p) where
  pub cut_refused : (e : Fault) → Missing (λ t. Follows n t → ⊥) p e → HeadBroken text e
  cut_refused e h = record {
    hs = f.hs;
    fine = f.fine;
    stop = p;
    read = f.read;
    why = cut_off (missing_as (λ t no' w. no' (subst (λ k. Follows k t) (sym f.count) w)) h);
  }

  pub name_refused : (q : Pos) (x : List ℕ) (place : ℕ) (e : Fault) → Next p (named x) place q → Admitted f.hs x place (Err e) → HeadBroken text e
  name_refused q x place e s h = record { hs = f.hs; fine = f.fine; stop = p; read = f.read; why = unfit_name place x q s h }

  -- a name that is short and new is one name more, if there is a place for its span, and else one too many
  module _ (q : Pos) (x : List ℕ) (place : ℕ) (s : Next p (named x) place q) (short : length x ≤ 12) (no' : (i : ℕ) → Declared f.hs x i → ⊥) where
    pub lay_one : (after : List Span) (m i : ℕ) → LaidTold new n (record { start = place; len = length x }) after m (Some i) → Headed text old after m q
    lay_one after m i h =
        let count = f.count in
        let long = f.long in
        let lt = h.0 in
        rw (h.1, h.2) (one_more text old new n p q x place f s short no' (λ e. omega arith))

    pub no_room : (e : Fault) → n ≡ length new → e ≡ fault ManyNames place → HeadBroken text e
    no_room e full is =
        let count = f.count in
        let long = f.long in
        name_refused q x place e s (inr (inr (is, short, no', omega arith)))
