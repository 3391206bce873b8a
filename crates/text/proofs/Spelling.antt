-- Formulas and their spelling: it is unambiguous, and where a formula is being read only some tokens can follow. Assumes nothing.
use Rattle.std.proofs.Common.{◌≡◌, ℕ, ◌+◌, ◌<◌, ◌≤◌, true, List, [], ◌∷◌, ◌++◌, sym, refl, ap, ◌∙◌, subst, append_assoc, append-nil, arith}
use Rattle.rule.specs.declared.operator.UnaryOperator.{UnaryOperator}
use Rattle.rule.specs.declared.operator.BinaryOperator.{BinaryOperator}
use Rattle.rule.specs.declared.operator.BinaryOperator.TheVariants.{And}
use Rattle.text.specs.Tokens.{Tok, named, colon, opens, closes, constant, unary, binary}
use Rattle.text.specs.Grammar.{Tree, truth, name, under, pair, names}
use Rattle.text.specs.Begun.{spell, size, Part, start, marked, left_in, left_done, right_in, right_done, spell_part, ended, Begun, part, whole, spell_begun, ended_in, Alive, Dead}
use Rattle.text.specs.Readers.{Joins, Shuts}

pub size_pos : (f : Tree) → 0 < size f
size_pos (truth b) = omega arith
size_pos (name n) = omega arith
size_pos (under m a) = omega arith
size_pos (pair m a b) = omega arith

-- a pair's spelling, with what comes after it
pub pair_split : (m : BinaryOperator) (a b : Tree) (x : List Tok) → spell (pair m a b) ++ x ≡ opens ∷ (spell a ++ (binary m ∷ (spell b ++ (closes ∷ x))))
pair_split m a b x = ap (λ l. opens ∷ l) (append_assoc (spell a) _ x ∙ ap (λ l. spell a ++ (binary m ∷ l)) (append_assoc (spell b) _ x))

pub one_zero : {A : Type 0} → ◌≡◌ {A = ℕ} 0 1 → A
one_zero e = absurd (omega arith)

pub head_of : (t u : Tok) (x y : List Tok) → t ∷ x ≡ u ∷ y → t ≡ u
head_of t u x y e = cc

pub tail_of : (t u : Tok) (x y : List Tok) → t ∷ x ≡ u ∷ y → x ≡ y
tail_of t u x y e = cc

-- the spelling is unambiguous, also where something follows it
pub same : (a b : Tree) (x y : List Tok) → spell a ++ x ≡ spell b ++ y → (a ≡ b) × (x ≡ y)
same (truth b) (truth b') x y e = (cc, tail_of _ _ _ _ e)
same (truth c) (name n') x y e = one_zero (cc)
same (truth c) (under m' a') x y e = one_zero (cc)
same (truth c) (pair m' a' b') x y e = one_zero (cc)
same (name n) (truth c) x y e = one_zero (cc)
same (name n) (name n') x y e = (cc, tail_of _ _ _ _ e)
same (name n) (under m' a') x y e = one_zero (cc)
same (name n) (pair m' a' b') x y e = one_zero (cc)
same (under m a) (truth c) x y e = one_zero (cc)
same (under m a) (name n') x y e = one_zero (cc)
same (under m a) (under m' a') x y e = let i = same a a' x y (tail_of _ _ _ _ e) in let mm : unary m ≡ unary m' = head_of _ _ _ _ e in let p = i.0 in (cc, i.1)
same (under m a) (pair m' a' b') x y e = one_zero (cc)
same (pair m a b) (truth c) x y e = one_zero (cc)
same (pair m a b) (name n') x y e = one_zero (cc)
same (pair m a b) (under m' a') x y e = one_zero (cc)
same (pair m a b) (pair m' a' b') x y e =
    let e' = sym (pair_split m a b x) ∙ e ∙ pair_split m' a' b' y in
    let i = same a a' _ _ (tail_of _ _ _ _ e') in
    let mm : binary m ≡ binary m' = head_of _ _ _ _ i.1 in
    let j = same b b' _ _ (tail_of _ _ _ _ i.1) in
    let p = i.0 in
    let q = j.0 in
    (cc, tail_of _ _ _ _ j.1)

-- where a formula may begin
abbrev pub Opening : Tok → Type 0
Opening (named n) = Unit {0}
Opening colon = ⊥
Opening opens = Unit {0}
Opening closes = ⊥
Opening (constant b) = Unit {0}
Opening (unary m) = Unit {0}
Opening (binary m) = ⊥

abbrev head0 : List Tok → Tok
head0 [] = colon
head0 (t ∷ ts) = t

opening : (f : Tree) (v : List Tok) → Opening (head0 (spell f ++ v))
opening (truth b) v = tt
opening (name n) v = tt
opening (under m a) v = tt
opening (pair m a b) v = tt

pub dead_start : (t : Tok) → (Opening t → ⊥) → Dead (t ∷ [])
dead_start t no' u v f e = no' (subst (λ l. Opening (head0 l)) (sym e) (opening f v))

-- a bracket that begins is a pair
in_pair : (f : Tree) (x v : List Tok) → opens ∷ x ≡ spell f ++ v → (m : BinaryOperator) × (a b : Tree) × (f ≡ pair m a b) × (x ≡ spell a ++ (binary m ∷ (spell b ++ (closes ∷ v))))
in_pair (truth c) x v e = one_zero (cc)
in_pair (name n) x v e = one_zero (cc)
in_pair (under m a) x v e = one_zero (cc)
in_pair (pair m a b) x v e = (m, a, b, refl, tail_of _ _ _ _ (e ∙ pair_split m a b v))

joins_at : (t : Tok) (m : BinaryOperator) → t ≡ binary m → Joins t
joins_at t m e = subst Joins (sym e) tt

shuts_at : (t : Tok) → t ≡ closes → Shuts t
shuts_at t e = subst Shuts (sym e) tt

pub dead_mark : (a : Tree) (t : Tok) → (Joins t → ⊥) → Dead (opens ∷ (spell a ++ (t ∷ [])))
dead_mark a t no' u v f e =
    let i = in_pair f _ v e in
    let j = same a i.1 _ _ (sym (append_assoc (spell a) _ u) ∙ i.4) in
    no' (joins_at t i.0 (head_of _ _ _ _ j.1))

pub dead_close : (a : Tree) (m : BinaryOperator) (b : Tree) (t : Tok) → (Shuts t → ⊥) → Dead (opens ∷ (spell a ++ (binary m ∷ (spell b ++ (t ∷ [])))))
dead_close a m b t no' u v f e =
    let i = in_pair f _ v e in
    let j = same a i.1 _ _ (sym (append_assoc (spell a) _ u) ∙ i.4) in
    let k = same b i.2 _ _ (sym (append_assoc (spell b) _ u) ∙ tail_of _ _ _ _ j.1) in
    no' (shuts_at t (head_of _ _ _ _ k.1))

-- a place in a formula where a part of it is being read: the tokens before it, and the rows that have ended in them
pub record Ctx (before : List Tok) (j : ℕ) : Type 0 where
  pub wrap : Part → Part
  pub wrap_spell : (p : Part) → spell_part (wrap p) ≡ before ++ spell_part p
  pub wrap_ended : (p : Part) → ended (wrap p) ≡ j + ended p
  pub wrap_all : Begun → Begun
  pub all_spell : (b : Begun) → spell_begun (wrap_all b) ≡ before ++ spell_begun b
  pub all_ended : (b : Begun) → j + ended_in b ≤ ended_in (wrap_all b)
  pub dead : (ts : List Tok) → Dead ts → Dead (before ++ ts)
  pub alive : (ts : List Tok) → Alive ts → Alive (before ++ ts)

under_all : UnaryOperator → Begun → Begun
under_all m (part p) = part (marked m p)
under_all m (whole f) = whole (under m f)

under_dead : (m : UnaryOperator) (ts : List Tok) → Dead ts → (u v : List Tok) (f : Tree) → unary m ∷ (ts ++ u) ≡ spell f ++ v → ⊥
under_dead m ts d u v (truth c) e = one_zero (cc)
under_dead m ts d u v (name n) e = one_zero (cc)
under_dead m ts d u v (under m' a) e = d u v a (tail_of _ _ _ _ e)
under_dead m ts d u v (pair m' a b) e = one_zero (cc)

under_spell : (m : UnaryOperator) (b : Begun) → spell_begun (under_all m b) ≡ unary m ∷ spell_begun b
unfolding under_all
under_spell m (part p) = refl
under_spell m (whole f) = refl

under_ended : (m : UnaryOperator) (b : Begun) → 0 + ended_in b ≤ ended_in (under_all m b)
unfolding under_all
under_ended m (part p) = omega arith
under_ended m (whole f) = omega arith

pub under_ctx : (m : UnaryOperator) → Ctx (unary m ∷ []) 0
under_ctx m = record {
  wrap = marked m;
  wrap_spell = λ p. refl;
  wrap_ended = λ p. omega arith;
  wrap_all = under_all m;
  all_spell = under_spell m;
  all_ended = under_ended m;
  dead = under_dead m;
  alive = λ ts a. (a.0, under m a.1, ap (λ l. unary m ∷ l) a.2);
}

left_all : Begun → Begun
left_all (part p) = part (left_in p)
left_all (whole f) = part (left_done f)

left_spell : (b : Begun) → spell_begun (left_all b) ≡ opens ∷ spell_begun b
unfolding left_all
left_spell (part p) = refl
left_spell (whole f) = refl

left_ended : (b : Begun) → 0 + ended_in b ≤ ended_in (left_all b)
unfolding left_all
left_ended (part p) = omega arith
left_ended (whole f) = omega arith

pub left_ctx : Ctx (opens ∷ []) 0
left_ctx = record {
  wrap = left_in;
  wrap_spell = λ p. refl;
  wrap_ended = λ p. omega arith;
  wrap_all = left_all;
  all_spell = left_spell;
  all_ended = left_ended;
  dead = λ ts d u v f e. let i = in_pair f _ v e in d u _ i.1 i.4;
  alive = λ ts a. (a.0 ++ (binary And ∷ constant true ∷ closes ∷ []), pair And a.1 (truth true), ap (λ l. opens ∷ l) (sym (append_assoc ts a.0 _) ∙ ap (λ l. l ++ (binary And ∷ constant true ∷ closes ∷ [])) a.2));
}

-- the tokens before the right part
abbrev pub before_right : Tree → BinaryOperator → List Tok
before_right a m = opens ∷ (spell a ++ (binary m ∷ []))

right_all : Tree → BinaryOperator → Begun → Begun
right_all a m (part p) = part (right_in a m p)
right_all a m (whole f) = part (right_done a m f)

right_join : (a : Tree) (m : BinaryOperator) (x : List Tok) → before_right a m ++ x ≡ opens ∷ (spell a ++ (binary m ∷ x))
right_join a m x = ap (λ l. opens ∷ l) (append_assoc (spell a) _ x)

right_spell : (a : Tree) (m : BinaryOperator) (b : Begun) → spell_begun (right_all a m b) ≡ before_right a m ++ spell_begun b
unfolding right_all
right_spell a m (part p) = sym (right_join a m (spell_part p))
right_spell a m (whole f) = sym (right_join a m (spell f))

right_ended : (a : Tree) (m : BinaryOperator) (b : Begun) → size a + ended_in b ≤ ended_in (right_all a m b)
unfolding right_all
right_ended a m (part p) = omega arith
right_ended a m (whole f) = omega arith

right_dead : (a : Tree) (m : BinaryOperator) (ts : List Tok) → Dead ts → Dead (before_right a m ++ ts)
right_dead a m ts d u v f e =
    let e' = ap (λ l. l ++ u) (sym (right_join a m ts)) ∙ e in
    let i = in_pair f _ v e' in
    let j = same a i.1 _ _ (sym (append_assoc (spell a) _ u) ∙ i.4) in
    d u _ i.2 (tail_of _ _ _ _ j.1)

right_alive : (a : Tree) (m : BinaryOperator) (ts : List Tok) → Alive ts → Alive (before_right a m ++ ts)
right_alive a m ts l = (
  l.0 ++ (closes ∷ []),
  pair m a l.1,
  ap (λ z. z ++ (l.0 ++ (closes ∷ []))) (right_join a m ts) ∙ ap (λ z. opens ∷ z) (append_assoc (spell a) _ _ ∙ ap (λ z. spell a ++ (binary m ∷ z)) (sym (append_assoc ts l.0 _) ∙ ap (λ z. z ++ (closes ∷ [])) l.2)),
)

pub right_ctx : (a : Tree) (m : BinaryOperator) → Ctx (before_right a m) (size a)
right_ctx a m = record {
  wrap = right_in a m;
  wrap_spell = λ p. sym (right_join a m (spell_part p));
  wrap_ended = λ p. refl;
  wrap_all = right_all a m;
  all_spell = right_spell a m;
  all_ended = right_ended a m;
  dead = right_dead a m;
  alive = right_alive a m;
}

-- a formula without its last token
cut : Tree → Part
cut (truth b) = start
cut (name n) = start
cut (under m a) = marked m (cut a)
cut (pair m a b) = right_done a m b

pub snoc_same : (xs ys : List Tok) (x y : Tok) → xs ++ (x ∷ []) ≡ ys ++ (y ∷ []) → xs ≡ ys
snoc_same [] [] x y e = refl
snoc_same [] (b ∷ []) x y e = one_zero (cc)
snoc_same [] (b ∷ c ∷ ys) x y e = one_zero (cc)
snoc_same (a ∷ []) [] x y e = one_zero (cc)
snoc_same (a ∷ c ∷ xs) [] x y e = one_zero (cc)
snoc_same (a ∷ xs) (b ∷ ys) x y e = let i = snoc_same xs ys x y (tail_of _ _ _ _ e) in let h = head_of _ _ _ _ e in (cc)

cut_spell : (f : Tree) → (t : Tok) × (spell_part (cut f) ++ (t ∷ []) ≡ spell f)
unfolding cut
cut_spell (truth b) = (constant b, refl)
cut_spell (name n) = (named n, refl)
cut_spell (under m a) = let i = cut_spell a in (i.0, ap (λ l. unary m ∷ l) i.1)
cut_spell (pair m a b) = (closes, ap (λ l. opens ∷ l) (append_assoc (spell a) _ _))

cut_ended : (f : Tree) → ended (cut f) < size f
unfolding cut
cut_ended (truth b) = omega arith
cut_ended (name n) = omega arith
cut_ended (under m a) = let i = cut_ended a in omega arith
cut_ended (pair m a b) = omega arith

-- what stands before a formula's last token is a part of it, with fewer rows
pub before_last : (f : Tree) (xs : List Tok) (t : Tok) → spell f ≡ xs ++ (t ∷ []) → (p : Part) × (xs ≡ spell_part p) × (ended p < size f)
before_last f xs t e = let i = cut_spell f in (cut f, snoc_same xs (spell_part (cut f)) t i.0 (sym e ∙ sym i.1), cut_ended f)

-- a colon ends the header
pub names_same : (hs gs : List (List ℕ)) (x y : List Tok) → names hs ++ (colon ∷ x) ≡ names gs ++ (colon ∷ y) → (hs ≡ gs) × (x ≡ y)
names_same [] [] x y e = (refl, tail_of _ _ _ _ e)
names_same [] (g ∷ gs) x y e = one_zero (cc)
names_same (h ∷ hs) [] x y e = one_zero (cc)
names_same (h ∷ hs) (g ∷ gs) x y e =
    let i = names_same hs gs x y (tail_of _ _ _ _ e) in
    let n : named h ≡ named g = head_of _ _ _ _ e in
    let p = i.0 in
    (cc, i.1)

-- names alone hold no colon, and tell which names they are
pub no_colon : {A : Type 0} (hs gs : List (List ℕ)) (x : List Tok) → names hs ≡ names gs ++ (colon ∷ x) → A
no_colon [] [] x e = one_zero (cc)
no_colon [] (g ∷ gs) x e = one_zero (cc)
no_colon (h ∷ hs) [] x e = one_zero (cc)
no_colon (h ∷ hs) (g ∷ gs) x e = no_colon hs gs x (tail_of _ _ _ _ e)

pub names_alone : (hs gs : List (List ℕ)) → names hs ≡ names gs → hs ≡ gs
names_alone hs gs e = (names_same hs gs [] [] (ap (λ l. l ++ (colon ∷ [])) e)).0

-- an unfinished formula can be finished, by at least one more token
pub complete : (p : Part) → (t : Tok) × (u : List Tok) × (f : Tree) × (spell_part p ++ (t ∷ u) ≡ spell f)
complete start = (constant true, [], truth true, refl)
complete (marked o p) = let i = complete p in (i.0, i.1, under o i.2, ap (λ l. unary o ∷ l) i.3)
complete (left_in p) =
    let i = complete p in
    (i.0, i.1 ++ (binary And ∷ constant true ∷ closes ∷ []), pair And i.2 (truth true), ap (λ l. opens ∷ l) (sym (append_assoc (spell_part p) (i.0 ∷ i.1) _) ∙ ap (λ l. l ++ (binary And ∷ constant true ∷ closes ∷ [])) i.3))
complete (left_done a) = (binary And, constant true ∷ closes ∷ [], pair And a (truth true), refl)
complete (right_in a o p) =
    let i = complete p in
    (i.0, i.1 ++ (closes ∷ []), pair o a i.2, ap (λ l. opens ∷ l) (append_assoc (spell a) _ _ ∙ ap (λ l. spell a ++ (binary o ∷ l)) (sym (append_assoc (spell_part p) (i.0 ∷ i.1) _) ∙ ap (λ l. l ++ (closes ∷ [])) i.3)))
complete (right_done a o b) = (closes, [], pair o a b, ap (λ l. opens ∷ l) (append_assoc (spell a) _ _))

pub begun_alive : (b : Begun) → Alive (spell_begun b)
begun_alive (part p) = let i = complete p in (i.0 ∷ i.1, i.2, i.3)
begun_alive (whole f) = ([], f, append-nil (spell f))

-- an unfinished formula is not the spelling of a formula
pub unfinished : {A : Type 0} (p : Part) (f : Tree) → spell_part p ≡ spell f → A
unfinished p f e =
    let j = complete p in
    let k = same f j.2 (j.0 ∷ j.1) [] (ap (λ l. l ++ (j.0 ∷ j.1)) (sym e) ∙ j.3 ∙ sym (append-nil _)) in
    let z : j.0 ∷ j.1 ≡ [] = k.1 in
    one_zero (cc)
