use Rattle.std.proofs.Common.{[], length, ap, ◌∙◌, subst, arith}
use Rattle.text.specs.Scanning.{pos_of}
use Rattle.text.specs.Readers.{names_in, Broken, Formed, TextTold}
use Rattle.text.proofs.Formulas.{passed_on}
use Rattle.text.proofs.Faulty.{head_told, formula_told, whole_told, text_read, read_lent}
use Rattle.text.proofs.reading.parse.Goals as goal

pub returns-in_err-from : goal.returns-in_err-from
returns-in_err-from c =
    record { text_read = passed_on (TextTold c.args.text.now c.args.rows.now _ c.args.names.now _) _ c.from_residual.ensures.1 (head_told _ _ c.in_err-from.ensures.header_read) }

pub returns-in_err-done : goal.returns-in_err-done
returns-in_err-done c =
    let h = c.in_ok-from.ensures.header_read in
    let same = ap (names_in c.args.text.now) c.laid.ensures.the_front ∙ h.headed.names_are in
    record { text_read = passed_on (TextTold c.args.text.now c.args.rows.now _ c.args.names.now _) _ c.from_residual-in_err-done.ensures.1 (formula_told h _ (subst (λ cap. Broken h.headed.hs cap 0 [] (pos_of c.in_ok-from.from) c.in_err-done.field-0.0) c.requires.sixty_four_rows (subst (λ hs. Broken hs (length c.args.rows.now) 0 [] (pos_of c.in_ok-from.from) c.in_err-done.field-0.0) same c.in_err-done.ensures.formula_read))) }

pub returns-in_err-end : goal.returns-in_err-end
returns-in_err-end c =
    let h = c.in_ok-from.ensures.header_read in
    let same = ap (names_in c.args.text.now) c.laid.ensures.the_front ∙ h.headed.names_are in
    record { text_read = passed_on (TextTold c.args.text.now c.args.rows.now _ c.args.names.now _) _ c.from_residual-in_err-end.ensures.1 (whole_told h (subst (λ hs. Formed hs [] (pos_of c.in_ok-from.from) c.args.rows.now 0 c.in_ok-done.done c.formula.new.rows.places.now c.formula.new.rows.filled) same c.in_ok-done.ensures.formula_read) c.requires.sixty_four_rows _ c.in_err-end.ensures.only_blanks) }

pub returns : goal.returns
returns c =
    let h = c.in_ok-from.ensures.header_read in
    let same = ap (names_in c.args.text.now) c.laid.ensures.the_front ∙ h.headed.names_are in
    let r = subst (λ hs. Formed hs [] (pos_of c.in_ok-from.from) c.args.rows.now 0 c.in_ok-done.done c.formula.new.rows.places.now c.formula.new.rows.filled) same c.in_ok-done.ensures.formula_read in
    let e = c.in_ok-end.ensures.only_blanks in
    record { text_read = read_lent (grind arith) (grind arith) (text_read h r c.requires.sixty_four_rows c.requires.sixteen_names e.0 e.1) }
