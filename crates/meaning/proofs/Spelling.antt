-- Each row's formula by those of its operands. Assumes nothing.
use Rattle.std.proofs.Common.{◌≡◌, ℕ, zero, suc, ◌+◌, ◌<◌, true, false, ltb, List, [], ◌∷◌, ◌++◌, length, get_or, sym, refl, ap, ◌∙◌, subst, ap₂, arith, length-append}
use Rattle.std.proofs.lemmas.List.{get_or_append_left, get_or_push}
use Rattle.std.proofs.lemmas.Bool.{ltb-true, and_parts}
use Rattle.rule.specs.declared.row.Row.{Row}
use Rattle.rule.specs.declared.row.Row.TheVariants.{Constant, Signal, Unary, Binary}
use Rattle.rule.specs.Fit.{row_fits}
use Rattle.meaning.specs.Meaning.{Formula, constant, unary, binary}
use Rattle.meaning.specs.Spelled.{formula, formulas, spelled}

length_push : {X : Type 0} (xs : List X) (x : X) → length (xs ++ x ∷ []) ≡ suc (length xs)
length_push xs x = length-append xs (x ∷ []) ∙ omega arith

pub length_formulas : (earlier : List Formula) (rows : List Row) → length (formulas earlier rows) ≡ length earlier + length rows
length_formulas earlier [] = omega arith
length_formulas earlier (r ∷ rows) =
    let e = length_formulas (earlier ++ formula earlier r ∷ []) rows in
    omega (arith, e, length_push earlier (formula earlier r))

-- the formulas of the rows before stay where they are
pub earlier_stay : (earlier : List Formula) (rows : List Row) (i : ℕ) (d : Formula) → i < length earlier → get_or (formulas earlier rows) i d ≡ get_or earlier i d
earlier_stay earlier [] i d h = refl
earlier_stay earlier (r ∷ rows) i d h =
    earlier_stay (earlier ++ formula earlier r ∷ []) rows i d (omega (arith, length_push earlier (formula earlier r)))
    ∙ get_or_append_left earlier (formula earlier r ∷ []) d i h

-- a row whose operands stay spells what it spelled
formula_stays : (signals : ℕ) (earlier all : List Formula) (r : Row) → row_fits signals (length earlier) r ≡ true
    → ((j : ℕ) → j < length earlier → get_or all j (constant false) ≡ get_or earlier j (constant false)) → formula earlier r ≡ formula all r
formula_stays signals earlier all (Constant b) f same = refl
formula_stays signals earlier all (Signal n) f same = refl
formula_stays signals earlier all (Unary o j) f same = ap (unary o) (sym (same j (ltb-true j (length earlier) f)))
formula_stays signals earlier all (Binary o j k) f same =
    let both = and_parts (ltb j (length earlier)) (ltb k (length earlier)) f in
    ap₂ (binary o) (sym (same j (ltb-true j (length earlier) both.0))) (sym (same k (ltb-true k (length earlier) both.1)))

behind : (signals : ℕ) (earlier : List Formula) (rows : List Row) (i : ℕ) → i < length rows
    → row_fits signals (length earlier + i) (get_or rows i (Constant false)) ≡ true
    → get_or (formulas earlier rows) (length earlier + i) (constant false) ≡ formula (formulas earlier rows) (get_or rows i (Constant false))
behind signals earlier [] i h f = absurd (omega arith)
behind signals earlier (r ∷ rows) zero h f =
    let more = earlier ++ formula earlier r ∷ [] in
    let len = length_push earlier (formula earlier r) in
    let at : length earlier + 0 ≡ length earlier = omega arith in
    let fit : row_fits signals (length earlier) r ≡ true = subst (λ (n : ℕ). row_fits signals n r ≡ true) at f in
    ap (λ (n : ℕ). get_or (formulas more rows) n (constant false)) at
    ∙ earlier_stay more rows (length earlier) (constant false) (omega arith)
    ∙ get_or_push earlier (formula earlier r) (constant false) (length earlier) refl
    ∙ formula_stays signals earlier (formulas more rows) r fit
    (λ j h. earlier_stay more rows j (constant false) (omega arith) ∙ get_or_append_left earlier (formula earlier r ∷ []) (constant false) j h)
behind signals earlier (r ∷ rows) (suc i) h f =
    let more = earlier ++ formula earlier r ∷ [] in
    let at : length more + i ≡ length earlier + suc i = omega (arith, length_push earlier (formula earlier r)) in
    let fit = subst (λ (n : ℕ). row_fits signals n (get_or rows i (Constant false)) ≡ true) (sym at) f in
    ap (λ (n : ℕ). get_or (formulas more rows) n (constant false)) (sym at) ∙ behind signals more rows i (omega arith) fit

-- a fit row spells its operator over what its operands spell
pub row_spells : (signals : ℕ) (rows : List Row) (i : ℕ) → i < length rows → row_fits signals i (get_or rows i (Constant false)) ≡ true
    → spelled rows i ≡ formula (formulas [] rows) (get_or rows i (Constant false))
row_spells signals rows i h f =
    let at : 0 + i ≡ i = omega arith in
    ap (λ (n : ℕ). spelled rows n) (sym at)
    ∙ behind signals [] rows i h (subst (λ (n : ℕ). row_fits signals n (get_or rows i (Constant false)) ≡ true) (sym at) f)
