-- The rows that have ended in the tokens of a formula, counted from the left. Assumes nothing.
use Rattle.std.proofs.Common.{◌≡◌, ℕ, suc, ◌+◌, ◌≤◌, List, [], ◌∷◌, ◌++◌, length, take, sum, sym, refl, ap, ◌∙◌, append_assoc, append-nil, arith, take_at}
use Rattle.std.proofs.lemmas.List.Sums.{sum_by-cons, sum_by-append}
use Rattle.text.specs.Tokens.{Tok, named, colon, opens, closes, constant, unary, binary}
use Rattle.text.specs.Grammar.{Tree, truth, name, under, pair, Spells, of_constant, of_name, of_unary, of_bracket, endings}
use Rattle.text.specs.Begun.{spell, size, Part, start, marked, left_in, left_done, right_in, right_done, spell_part, ended, Begun, part, whole, spell_begun, ended_in}
use Rattle.text.proofs.Spelling.{pair_split}

pub spells_spell : (f : Tree) → Spells (spell f) f
spells_spell (truth b) = of_constant
spells_spell (name x) = of_name
spells_spell (under o a) = of_unary (spells_spell a)
spells_spell (pair o a b) = of_bracket (spells_spell a) (spells_spell b)

pub spell_of : {ts : List Tok} {f : Tree} → Spells ts f → ts ≡ spell f
spell_of of_constant = refl
spell_of of_name = refl
spell_of (of_unary s) = let e = spell_of s in cc
spell_of (of_bracket s u) = let e = spell_of s in let f = spell_of u in cc

-- for each token, how many formulas end with it: j unary operators wait for the formula that begins, and so many as the stack says for each open bracket
abbrev pub counts : ℕ → List ℕ → List Tok → List ℕ
counts j st [] = []
counts j st (named x ∷ ts) = (j + 1) ∷ counts 0 st ts
counts j st (colon ∷ ts) = 0 ∷ counts j st ts
counts j st (opens ∷ ts) = 0 ∷ counts 0 (j ∷ st) ts
counts j [] (closes ∷ ts) = 0 ∷ counts 0 [] ts
counts j (i ∷ st) (closes ∷ ts) = (i + 1) ∷ counts 0 st ts
counts j st (constant b ∷ ts) = (j + 1) ∷ counts 0 st ts
counts j st (unary o ∷ ts) = 0 ∷ counts (j + 1) st ts
counts j st (binary o ∷ ts) = 0 ∷ counts 0 st ts

pub counts_spell : (f : Tree) (j : ℕ) (st : List ℕ) (rest : List Tok) → counts j st (spell f ++ rest) ≡ endings j f ++ counts 0 st rest
counts_spell (truth b) j st rest = refl
counts_spell (name x) j st rest = refl
counts_spell (under o a) j st rest = ap (λ l. 0 ∷ l) (counts_spell a (j + 1) st rest)
counts_spell (pair o a b) j st rest =
    ap (counts j st) (pair_split o a b rest)
    ∙ ap (λ l. 0 ∷ l) (counts_spell a 0 (j ∷ st) _ ∙ ap (λ l. endings 0 a ++ (0 ∷ l)) (counts_spell b 0 (j ∷ st) _))
    ∙ simp append_assoc

-- what one token does, whatever comes after it
counts_step : (j : ℕ) (st : List ℕ) (t : Tok) → (e k : ℕ) × (sk : List ℕ) × ((ts : List Tok) → counts j st (t ∷ ts) ≡ e ∷ counts k sk ts)
counts_step j st (named x) = (j + 1, 0, st, λ ts. refl)
counts_step j st colon = (0, j, st, λ ts. refl)
counts_step j st opens = (0, 0, j ∷ st, λ ts. refl)
counts_step j [] closes = (0, 0, [], λ ts. refl)
counts_step j (i ∷ st) closes = (i + 1, 0, st, λ ts. refl)
counts_step j st (constant b) = (j + 1, 0, st, λ ts. refl)
counts_step j st (unary o) = (0, j + 1, st, λ ts. refl)
counts_step j st (binary o) = (0, 0, st, λ ts. refl)

-- what the counts say of a front of the tokens depends on that front only
counts_front : (j : ℕ) (st : List ℕ) (us vs : List Tok) → (ws : List ℕ) × (counts j st (us ++ vs) ≡ counts j st us ++ ws)
counts_front j st [] vs = (counts j st vs, refl)
counts_front j st (t ∷ us) vs =
    let s = counts_step j st t in
    let i = counts_front s.1 s.2 us vs in
    (i.0, s.3 (us ++ vs) ∙ ap (λ l. s.0 ∷ l) i.1 ∙ ap (λ l. l ++ i.0) (sym (s.3 us)))

pub counts_length : (j : ℕ) (st : List ℕ) (us : List Tok) → length (counts j st us) ≡ length us
counts_length j st [] = refl
counts_length j st (t ∷ us) = let s = counts_step j st t in ap length (s.3 us) ∙ ap suc (counts_length s.1 s.2 us)

pub counts_take : (j : ℕ) (st : List ℕ) (us vs : List Tok) → take (length us) (counts j st (us ++ vs)) ≡ counts j st us
counts_take j st us vs = let i = counts_front j st us vs in ap (take (length us)) i.1 ∙ take_at (counts j st us) i.0 (length us) (counts_length j st us)

-- the formulas that have ended in the tokens
abbrev pub rows_ended : List Tok → ℕ
rows_ended us = sum (counts 0 [] us)

pub rows_ended_before : (f : Tree) (us vs : List Tok) → us ++ vs ≡ spell f → sum (take (length us) (endings 0 f)) ≡ rows_ended us
rows_ended_before f us vs e =
    let all : endings 0 f ≡ counts 0 [] (us ++ vs) = sym (append-nil _) ∙ sym (counts_spell f 0 [] []) ∙ ap (counts 0 []) (append-nil _ ∙ sym e) in
    ap (λ l. sum (take (length us) l)) all ∙ ap sum (counts_take 0 [] us vs)

pub ended_more : (us vs : List Tok) → rows_ended us ≤ rows_ended (us ++ vs)
ended_more us vs = let i = counts_front 0 [] us vs in omega (arith, ap sum i.1 ∙ sum_by-append (λ x. x) (counts 0 [] us) i.0)

pub endings_sum : (f : Tree) (j : ℕ) → sum (endings j f) ≡ size f + j
endings_sum (truth b) j = omega arith
endings_sum (name x) j = omega arith
endings_sum (under o a) j = let i = endings_sum a (j + 1) in omega arith
endings_sum (pair o a b) j = let i = endings_sum a 0 in let k = endings_sum b 0 in simp (sum_by-append, sum_by-cons) (omega arith)

-- a formula's rows and those of the operators that wait for it, and then those of what follows
after_formula : (f : Tree) (j : ℕ) (st : List ℕ) (rest : List Tok) → sum (counts j st (spell f ++ rest)) ≡ size f + j + sum (counts 0 st rest)
after_formula f j st rest = ap sum (counts_spell f j st rest) ∙ sum_by-append (λ x. x) (endings j f) _ ∙ ap (λ n. n + sum (counts 0 st rest)) (endings_sum f j)

formula_ended : (f : Tree) (j : ℕ) (st : List ℕ) → sum (counts j st (spell f)) ≡ size f + j
formula_ended f j st = ap (λ l. sum (counts j st l)) (sym (append-nil (spell f))) ∙ omega (arith, after_formula f j st [])

part_ended : (p : Part) (j : ℕ) (st : List ℕ) → sum (counts j st (spell_part p)) ≡ ended p
part_ended start j st = refl
part_ended (marked o p) j st = part_ended p (j + 1) st
part_ended (left_in p) j st = part_ended p 0 (j ∷ st)
part_ended (left_done a) j st = omega (arith, formula_ended a 0 (j ∷ st))
part_ended (right_in a o p) j st = let i = part_ended p 0 (j ∷ st) in omega (arith, after_formula a 0 (j ∷ st) (binary o ∷ spell_part p))
part_ended (right_done a o b) j st = let i = formula_ended b 0 (j ∷ st) in omega (arith, after_formula a 0 (j ∷ st) (binary o ∷ spell b))

pub ended_begun : (b : Begun) → rows_ended (spell_begun b) ≡ ended_in b
ended_begun (part p) = part_ended p 0 []
ended_begun (whole f) = omega (arith, formula_ended f 0 [])
