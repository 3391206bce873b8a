-- What the readers of formulas answer, from what the readers of their parts answer. Assumes nothing.
use Rattle.std.proofs.Common.{◌≡◌, ℕ, suc, ◌+◌, ◌-◌, ◌<◌, ◌≤◌, List, [], ◌∷◌, ◌++◌, length, set, Some, None, Ok, Err, Option, Result, IsErrAnd, sym, refl, ap, ◌∙◌, subst, inl, inr, append_assoc, arith, length-append, length-set}
use Rattle.std.specs.List.{All}
use Rattle.std.proofs.lemmas.List.Elements.{All-append, All-cons, All-nil}
use Rattle.rule.specs.declared.operator.UnaryOperator.{UnaryOperator}
use Rattle.rule.specs.declared.operator.BinaryOperator.{BinaryOperator}
use Rattle.rule.specs.declared.row.Row.{Row}
use Rattle.rule.specs.declared.row.Row.TheVariants.{Unary, Binary}
use Rattle.rule.specs.declared.refusal.Fault.{Fault}
use Rattle.rule.specs.declared.refusal.Refusal.TheVariants.{OutOfPlace}
use Rattle.text.specs.declared.token.Token.{Token}
use Rattle.text.specs.declared.cursor.Cursor.{Cursor}
use Rattle.text.specs.declared.formula.Done.{Done}
use Rattle.text.specs.Tokens.{Tok, named, opens, closes, unary, binary, bytes_of, Pos, Next, Lex}
use Rattle.text.specs.Scanning.{shown, pos_of, Onward}
use Rattle.text.specs.Grammar.{Tree, name, under, pair, Rows}
use Rattle.text.specs.Begun.{spell, size, start, left_done, right_done, whole, Alive, Dead, put}
use Rattle.rule.specs.Faults.{fault}
use Rattle.text.specs.Readers.{Good, Ends, Missing, no_token, early_end, unwanted, Why, missing, long_name, undeclared, many_rows, Broken, Formed, FormedAt, LaidAt, Joins, Shuts, SignalTold}
use Rattle.text.proofs.Each.{each_one, each_front, each_at}
use Rattle.text.proofs.OneReading.{bytes_pos, lex_append}
use Rattle.text.proofs.Spelling.{Ctx, before_last, Opening, dead_start, dead_mark, dead_close, under_ctx, right_ctx}

-- the bytes left fall, and place and bytes left stay together
pub record Onto (p q : Pos) : Type 0 where
  pub total : q.at + length q.rest ≡ p.at + length p.rest
  pub less : length q.rest < length p.rest

pub step_onto : (p : Pos) (t : Tok) (place : ℕ) (q : Pos) → Next p t place q → Onto p q
step_onto p t place q s =
    let a = ap length s.split ∙ length-append s.gap s.here in
    let b = ap length s.begins.split ∙ length-append (bytes_of t) q.rest in
    let c = bytes_pos t q.rest s.begins.whole in
    let d = s.placed in
    let e = s.onward in
    record { total = omega arith; less = omega arith }

pub record Upto (p q : Pos) : Type 0 where
  pub total : q.at + length q.rest ≡ p.at + length p.rest
  pub less : length q.rest ≤ length p.rest

pub lex_upto : (p : Pos) (ts : List Tok) (q : Pos) → Lex p ts q → Upto p q
lex_upto p [] q e = subst (Upto p) e (record { total = refl; less = omega arith })
lex_upto p (t ∷ ts) q l =
    let a = step_onto p t l.0 l.1 l.2 in
    let b = lex_upto l.1 ts q l.3 in
    record { total = b.total ∙ a.total; less = omega arith }

pub ends_one : {p q : Pos} {t : Tok} {place : ℕ} → Next p t place q → Ends p (t ∷ []) place q
ends_one {p} {q} {t} {place} s = record { front = []; final = t; mid = p; split = refl; read = refl; step = s }

pub ends_after : {p m q : Pos} {ts : List Tok} {last : ℕ} (xs : List Tok) → Lex p xs m → Ends m ts last q → Ends p (xs ++ ts) last q
ends_after {p} {m} {q} {ts} {last} xs l e = record {
  front = xs ++ e.front;
  final = e.final;
  mid = e.mid;
  split = ap (λ z. xs ++ z) e.split ∙ sym (append_assoc xs e.front _);
  read = lex_append p m e.mid xs e.front l e.read;
  step = e.step;
}

pub ends_lex : {p q : Pos} {ts : List Tok} {last : ℕ} → Ends p ts last q → Lex p ts q
ends_lex {p} {q} {ts} {last} e = subst (λ z. Lex p z q) (sym e.split) (lex_append p e.mid q e.front _ e.read (last, q, e.step, refl))

pub ends_onto : {p q : Pos} {ts : List Tok} {last : ℕ} → Ends p ts last q → Onto p q
ends_onto {p} {q} {ts} {last} e =
    let a = lex_upto p e.front e.mid e.read in
    let b = step_onto e.mid e.final last q e.step in
    record { total = b.total ∙ a.total; less = omega arith }

-- the fault that `?` passes on
pub passed_on : {X : Type 0} {e : Fault} (Told : Result X Fault → Type 0) (r : Result X Fault) → IsErrAnd r (λ f. f ≡ e) → Told (Err e) → Told r
passed_on Told (Ok x) h t = absurd h
passed_on Told (Err f) h t = subst (λ z. Told (Err z)) (sym h) t

-- the token that `next_token` gave
pub step_at : (p : Pos) (o : Option Token) (t : Token) (place : ℕ) (after : Cursor) → Onward p o place after → o ≡ Some t → Next p (shown t) place (pos_of after)
step_at p o t place after h e = subst (λ z. Onward p z place after) e h

-- the token that `next_token` gave is none of those wanted
pub not_wanted : (W : Tok → Type 0) (p : Pos) (o : Option Token) (place : ℕ) (after : Cursor) → Onward p o place after → ((t : Token) → o ≡ Some t → W (shown t) → ⊥) → Missing (λ t. W t → ⊥) p (fault OutOfPlace place)
not_wanted W p None place after h apart = early_end place refl h
not_wanted W p (Some t) place after h apart = unwanted place (shown t) (pos_of after) refl h (apart t refl)

pub missing_as : {U V : Tok → Type 0} {p : Pos} {e : Fault} → ((t : Tok) → U t → V t) → Missing U p e → Missing V p e
missing_as f (no_token place is s) = no_token place is s
missing_as f (early_end place is h) = early_end place is h
missing_as f (unwanted place t m is s u) = unwanted place t m is s (f t u)

-- a fault inside a part of a formula is a fault of the formula
why_lift : (hs : List (List ℕ)) (cap k : ℕ) {j : ℕ} {before : List Tok} (C : Ctx before j) (ts : List Tok) (q : Pos) (e : Fault) → Why hs cap (k + j) ts q e → Why hs cap k (before ++ ts) q e
why_lift hs cap k {before} C ts q e (missing w) = missing (missing_as (λ t d. subst Dead (sym (append_assoc before ts _)) (C.dead _ d)) w)
why_lift hs cap k {before} C ts q e (long_name place x m is s a lt) = long_name place x m is s (subst Alive (sym (append_assoc before ts _)) (C.alive _ a)) lt
why_lift hs cap k {before} C ts q e (undeclared place x m is s a le none) = undeclared place x m is s (subst Alive (sym (append_assoc before ts _)) (C.alive _ a)) le none
why_lift hs cap k {before} C ts q e (many_rows place t m b is s g sp lt) =
    let more = C.all_ended b in
    many_rows place t m (C.wrap_all b) is s g (append_assoc before ts _ ∙ ap (λ z. before ++ z) sp ∙ sym (C.all_spell b)) (omega arith)

pub lift : {hs : List (List ℕ)} {cap k j : ℕ} {pre before : List Tok} {p m : Pos} {e : Fault} (C : Ctx before j) (xs : List Tok) → pre ++ xs ≡ before → Lex p xs m → All (Good hs) xs → Broken hs cap (k + j) [] m e → Broken hs cap k pre p e
lift {hs} {cap} {k} {j} {pre} {before} {p} {m} {e} C xs is l g r =
    let so : pre ++ (xs ++ r.toks) ≡ before ++ r.toks = sym (append_assoc pre xs r.toks) ∙ ap (λ z. z ++ r.toks) is in
    let w = C.wrap_ended r.begun in
    let room = r.room in
    record {
      begun = C.wrap r.begun;
      toks = xs ++ r.toks;
      stop = r.stop;
      spelled = so ∙ ap (λ z. before ++ z) r.spelled ∙ sym (C.wrap_spell r.begun);
      read = lex_append p m r.stop xs r.toks l r.read;
      good = All-append (Good hs) xs r.toks g r.good;
      room = omega arith;
      why = subst (λ z. Why hs cap k z r.stop e) (sym so) (why_lift hs cap k C r.toks r.stop e r.why);
    }

pub length_put : {X : Type 0} (s : List X) (k : ℕ) (rs : List X) → length (put s k rs) ≡ length s
length_put s k [] = refl
length_put s k (r ∷ rs) = length_put (set s k r) (k + 1) rs ∙ length-set s k r

pub put_more : {X : Type 0} (s : List X) (k : ℕ) (xs ys : List X) → put (put s k xs) (k + length xs) ys ≡ put s k (xs ++ ys)
put_more s k [] ys = ap (λ n. put s n ys) (let e : k + 0 ≡ k = omega arith in e)
put_more s k (a ∷ xs) ys = ap (λ n. put (put (set s k a) (k + 1) xs) n ys) (let e : k + suc (length xs) ≡ (k + 1) + length xs = omega arith in e) ∙ put_more (set s k a) (k + 1) xs ys

-- what `lay` makes of the last row of a formula
pub lay_all : (hs : List (List ℕ)) (pre : List Tok) (p : Pos) (s s1 s2 : List Row) (k k1 : ℕ) (f : Tree) (toks : List Tok) (rs : List Row) (r : Row) (last : ℕ) (after : Cursor) (n : ℕ) (res : Result Done Fault)
    → pre ++ toks ≡ spell f → Ends p toks last (pos_of after) → All (Good hs) toks → Rows hs k f (rs ++ (r ∷ [])) → size f ≡ length rs + 1
    → s1 ≡ put s k rs → k1 ≡ k + length rs → k1 ≤ length s → LaidAt s1 k1 r last after s2 n res → FormedAt hs pre p s k s2 n res
lay_all hs pre p s s1 s2 k k1 f toks rs r last after n (Ok d) sp en go ro si st is le h =
    let a = h.0 in
    let b = h.2 in
    let d_row = ap (λ (z : Done). z.row) h.3 in
    let m = length-append rs (r ∷ []) in
    let w = ap length st ∙ length_put s k rs in
    record {
      tree = f;
      toks = toks;
      rows = rs ++ (r ∷ []);
      spelled = sp;
      ends = subst (λ (z : Done). Ends p toks z.last (pos_of z.after)) (sym h.3) en;
      good = go;
      laid = ro;
      sized = m ∙ sym si;
      strip = h.1 ∙ ap (λ z. set z k1 r) st ∙ ap (λ i. set (put s k rs) i r) is ∙ put_more s k rs (r ∷ []);
      filled = omega arith;
      number = omega arith;
      fits = omega arith;
    }
lay_all hs pre p s s1 s2 k k1 f toks rs r last after n (Err e) sp en go ro si st is le h =
    let whole_split : spell f ≡ (pre ++ en.front) ++ (en.final ∷ []) = sym sp ∙ ap (λ z. pre ++ z) en.split ∙ sym (append_assoc pre en.front _) in
    let b = before_last f (pre ++ en.front) en.final whole_split in
    let fewer = b.2 in
    let full = h.0 in
    let w = ap length st ∙ length_put s k rs in
    let all = subst (All (Good hs)) en.split go in
    record {
      begun = b.0;
      toks = en.front;
      stop = en.mid;
      spelled = b.1;
      read = en.read;
      good = each_front (Good hs) en.front _ all;
      room = omega arith;
      why = many_rows last en.final (pos_of after) (whole f) h.1 en.step (each_at (Good hs) en.front en.final [] all) (sym whole_split) (omega arith);
    }

pub lift_at : {hs : List (List ℕ)} {cap cap' k k' j : ℕ} {pre before : List Tok} {p m : Pos} {e : Fault} (C : Ctx before j) (xs : List Tok) → pre ++ xs ≡ before → Lex p xs m → All (Good hs) xs → cap' ≡ cap → k' ≡ k + j → Broken hs cap' k' [] m e → Broken hs cap k pre p e
lift_at {hs} {cap} {cap'} {k} {k'} {j} {pre} {before} {p} {m} {e} C xs is l g c n r = lift C xs is l g (subst (λ z. Broken hs z (k + j) [] m e) c (subst (λ z. Broken hs cap' z [] m e) n r))

-- a one-row mark before a formula
pub under_refused : {hs : List (List ℕ)} {cap k place : ℕ} {p q : Pos} {e : Fault} (m : UnaryOperator) → Next p (unary m) place q → Broken hs cap k [] q e → Broken hs cap k [] p e
under_refused {hs} {place} {q} m s r = lift_at (under_ctx m) (unary m ∷ []) refl (place, q, s, refl) (each_one (Good hs) (unary m) tt) refl (omega arith) r

pub under_formed : {hs : List (List ℕ)} {p q : Pos} {s s1 : List Row} {k k1 : ℕ} {m : UnaryOperator} {place : ℕ} {d : Done} (s2 : List Row) (n : ℕ) (res : Result Done Fault) → Next p (unary m) place q → Formed hs [] q s k d s1 k1 → LaidAt s1 k1 (Unary m d.row) d.last d.after s2 n res → FormedAt hs [] p s k s2 n res
under_formed {hs} {p} {q} {s} {s1} {k} {k1} {m} {place} {d} s2 n res st r h =
    lay_all hs [] p s s1 s2 k k1 (under m r.tree) (unary m ∷ r.toks) r.rows (Unary m d.row) d.last d.after n res
    (ap (λ z. unary m ∷ z) r.spelled)
    (ends_after (unary m ∷ []) (place, q, st, refl) r.ends)
    (All-cons (Good hs) (unary m) r.toks tt r.good)
    (r.rows, r.laid, ap (λ i. r.rows ++ (Unary m i ∷ [])) r.number)
    (ap (λ i. i + 1) (sym r.sized))
    r.strip
    r.filled
    r.fits
    h

-- a bracket, from its opening on
pub open_formed : (hs : List (List ℕ)) {p q : Pos} {place : ℕ} (s s1 : List Row) (k n : ℕ) (res : Result Done Fault) → Next p opens place q → FormedAt hs (opens ∷ []) q s k s1 n res → FormedAt hs [] p s k s1 n res
open_formed hs {p} {q} {place} s s1 k n (Ok d) st r = record {
  tree = r.tree;
  toks = opens ∷ r.toks;
  rows = r.rows;
  spelled = r.spelled;
  ends = ends_after (opens ∷ []) (place, q, st, refl) r.ends;
  good = All-cons (Good hs) opens r.toks tt r.good;
  laid = r.laid;
  sized = r.sized;
  strip = r.strip;
  filled = r.filled;
  number = r.number;
  fits = r.fits;
}
open_formed hs {p} {q} {place} s s1 k n (Err e) st r = record {
  begun = r.begun;
  toks = opens ∷ r.toks;
  stop = r.stop;
  spelled = r.spelled;
  read = (place, q, st, r.read);
  good = All-cons (Good hs) opens r.toks tt r.good;
  room = r.room;
  why = r.why;
}

-- no formula begins here, or only its one token is at fault
refused_at_start : (hs : List (List ℕ)) (cap k : ℕ) (p : Pos) (e : Fault) → k ≤ cap → Why hs cap k [] p e → Broken hs cap k [] p e
refused_at_start hs cap k p e le w = record { begun = start; toks = []; stop = p; spelled = refl; read = refl; good = All-nil (Good hs); room = omega arith; why = w }

pub start_refused : (hs : List (List ℕ)) (cap k : ℕ) (p : Pos) (e : Fault) → k ≤ cap → Missing (λ t. Opening t → ⊥) p e → Broken hs cap k [] p e
start_refused hs cap k p e le h = refused_at_start hs cap k p e le (missing (missing_as dead_start h))

pub name_refused : (hs : List (List ℕ)) (cap k : ℕ) (p q : Pos) (x : List ℕ) (place : ℕ) (e : Fault) → k ≤ cap → Next p (named x) place q → SignalTold hs x place (Err e) → Broken hs cap k [] p e
name_refused hs cap k p q x place e le s (inl h) = refused_at_start hs cap k p e le (long_name place x q h.0 s ([], name x, refl) h.1)
name_refused hs cap k p q x place e le s (inr h) = refused_at_start hs cap k p e le (undeclared place x q h.0 s ([], name x, refl) h.1 h.2)

module _ {hs : List (List ℕ)} {p : Pos} {s s1 : List Row} {k k1 : ℕ} {d1 : Done} (A : Formed hs [] p s k d1 s1 k1) where
  pub left_refused : (e : Fault) → Missing (λ t. Joins t → ⊥) (pos_of d1.after) e → Broken hs (length s) k (opens ∷ []) p e
  left_refused e h =
      let a = A.filled in
      let b = A.sized in
      let c = A.fits in
      record {
        begun = left_done A.tree;
        toks = A.toks;
        stop = pos_of d1.after;
        spelled = ap (λ z. opens ∷ z) A.spelled;
        read = ends_lex A.ends;
        good = A.good;
        room = omega arith;
        why = missing (missing_as (λ t no'. subst (λ z. Dead (opens ∷ (z ++ (t ∷ [])))) (sym A.spelled) (dead_mark A.tree t no')) h);
      }

  module _ {m : BinaryOperator} {q : Pos} {place : ℕ} (st : Next (pos_of d1.after) (binary m) place q) where
    before_lex : Lex p (A.toks ++ (binary m ∷ [])) q
    before_lex = lex_append p (pos_of d1.after) q A.toks _ (ends_lex A.ends) (place, q, st, refl)

    before_good : All (Good hs) (A.toks ++ (binary m ∷ []))
    before_good = All-append (Good hs) A.toks _ A.good (each_one (Good hs) (binary m) tt)

    same_length : length s1 ≡ length s
    same_length = ap length A.strip ∙ length_put s k A.rows

    so_far : k1 ≡ k + size A.tree
    so_far = A.filled ∙ ap (λ n. k + n) A.sized

    pub right_refused : (e : Fault) → Broken hs (length s1) k1 [] q e → Broken hs (length s) k (opens ∷ []) p e
    right_refused e r = lift_at (right_ctx A.tree m) (A.toks ++ (binary m ∷ [])) (ap (λ z. opens ∷ (z ++ (binary m ∷ []))) A.spelled) before_lex before_good same_length so_far r

    module _ {s2 : List Row} {k2 : ℕ} {d2 : Done} (B : Formed hs [] q s1 k1 d2 s2 k2) where
      both_spell : opens ∷ (A.toks ++ (binary m ∷ B.toks)) ≡ opens ∷ (spell A.tree ++ (binary m ∷ spell B.tree))
      both_spell = ap (λ z. opens ∷ (z ++ (binary m ∷ B.toks))) A.spelled ∙ ap (λ z. opens ∷ (spell A.tree ++ (binary m ∷ z))) B.spelled

      both_lex : Lex p (A.toks ++ (binary m ∷ B.toks)) (pos_of d2.after)
      both_lex = lex_append p (pos_of d1.after) (pos_of d2.after) A.toks _ (ends_lex A.ends) (place, q, st, ends_lex B.ends)

      both_good : All (Good hs) (A.toks ++ (binary m ∷ B.toks))
      both_good = All-append (Good hs) A.toks _ A.good (All-cons (Good hs) (binary m) B.toks tt B.good)

      pub close_refused : (e : Fault) → Missing (λ t. Shuts t → ⊥) (pos_of d2.after) e → Broken hs (length s) k (opens ∷ []) p e
      close_refused e h =
          let a = so_far in
          let b = B.filled in
          let c = B.sized in
          let f = B.fits in
          let l = same_length in
          record {
            begun = right_done A.tree m B.tree;
            toks = A.toks ++ (binary m ∷ B.toks);
            stop = pos_of d2.after;
            spelled = both_spell;
            read = both_lex;
            good = both_good;
            room = omega arith;
            why = missing (missing_as (λ t no'. subst Dead (sym (ap (λ z. z ++ (t ∷ [])) both_spell ∙ ap (λ z. opens ∷ z) (append_assoc (spell A.tree) _ (t ∷ [])))) (dead_close A.tree m B.tree t no')) h);
          }

      pub pair_formed : (after : Cursor) (last : ℕ) (s3 : List Row) (n : ℕ) (res : Result Done Fault) → Next (pos_of d2.after) closes last (pos_of after) → LaidAt s2 k2 (Binary m d1.row d2.row) last after s3 n res → FormedAt hs (opens ∷ []) p s k s3 n res
      pair_formed after last s3 n res cl h =
          let a = A.filled in
          let b = B.filled in
          let c = B.fits in
          let la = A.sized in
          let lb = B.sized in
          let l = same_length in
          let lr = length-append A.rows B.rows in
          let second : d2.row ≡ k + length A.rows + length B.rows - 1 = B.number ∙ ap (λ i. i + length B.rows - 1) a in
          let r = Binary m d1.row d2.row in
          lay_all hs (opens ∷ []) p s s2 s3 k k2 (pair m A.tree B.tree) ((A.toks ++ (binary m ∷ B.toks)) ++ (closes ∷ [])) (A.rows ++ B.rows) r last after n res
          (ap (λ z. z ++ (closes ∷ [])) both_spell ∙ ap (λ z. opens ∷ z) (append_assoc (spell A.tree) _ (closes ∷ [])))
          (ends_after (A.toks ++ (binary m ∷ B.toks)) both_lex (ends_one cl))
          (All-append (Good hs) (A.toks ++ (binary m ∷ B.toks)) (closes ∷ []) both_good (each_one (Good hs) closes tt))
          (A.rows, B.rows, A.laid, subst (λ z. Rows hs z B.tree B.rows) a B.laid, append_assoc A.rows B.rows (r ∷ []) ∙ ap (λ z. A.rows ++ (B.rows ++ (Binary m z d2.row ∷ []))) A.number ∙ ap (λ z. A.rows ++ (B.rows ++ (Binary m (k + length A.rows - 1) z ∷ []))) second)
          (omega arith)
          (B.strip ∙ ap (λ z. put z k1 B.rows) A.strip ∙ ap (λ z. put (put s k A.rows) z B.rows) a ∙ put_more s k A.rows B.rows)
          (omega arith)
          (omega arith)
          h
