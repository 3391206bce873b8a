use Rattle.std.proofs.Common.{◌≡◌, ℕ, [], ◌∷◌, Some, refl, arith}
use Rattle.std.proofs.lemmas.List.Elements.{All-nil}
use Rattle.rule.specs.declared.row.Row.TheVariants as row
use Rattle.text.specs.declared.token.Token.{Token}
use Rattle.text.specs.declared.token.Token.TheVariants.{Name, Open, Constant, Unary}
use Rattle.text.specs.Tokens.{named, constant}
use Rattle.text.specs.Scanning.{shown}
use Rattle.text.specs.Grammar.{truth, name}
use Rattle.text.specs.Readers.{Good, no_token, FormedAt}
use Rattle.text.proofs.Each.{each_one}
use Rattle.text.proofs.Spelling.{Opening, left_ctx}
use Rattle.text.proofs.Formulas.{passed_on, step_at, step_onto, ends_one, ends_onto, lift_at, under_refused, under_formed, open_formed, start_refused, name_refused, left_refused, right_refused, close_refused, pair_formed, not_wanted, lay_all}
use Rattle.text.proofs.formula.+bracket_formula.Goals as goal

-- the readers of a formula

pub formula-returns-in_err-step-clause-formula_read : goal.formula-returns-in_err-step-clause-formula_read
formula-returns-in_err-step-clause-formula_read t c =
    passed_on (FormedAt _ _ _ _ _ _ _) _ c.from_residual.ensures.1 (start_refused _ _ _ _ _ (omega arith) (no_token _ refl c.in_err-step.ensures.next_item))

pub formula-returns-in-Some-Constant-clause-formula_read : goal.formula-returns-in-Some-Constant-clause-formula_read
formula-returns-in-Some-Constant-clause-formula_read t c =
    let s = step_at _ _ (Constant c.in-Some-Constant.value) _ _ c.in_ok-step.ensures.next_item (grind arith) in
    lay_all _ [] _ _ _ _ _ _ (truth c.in-Some-Constant.value) (constant c.in-Some-Constant.value ∷ []) [] (row.Constant c.in-Some-Constant.value) _ _ _ _ refl (ends_one s) (each_one (Good _) (constant c.in-Some-Constant.value) tt) refl refl refl (omega arith) (omega arith) c.lay.ensures.laid_if_room

pub formula-returns-in_ok-signal-in-Some-Name-clause-formula_read : goal.formula-returns-in_ok-signal-in-Some-Name-clause-formula_read
formula-returns-in_ok-signal-in-Some-Name-clause-formula_read t c =
    let s = step_at _ _ (Name c.in-Some-Name.name) _ _ c.in_ok-step.ensures.next_item (grind arith) in
    let n = c.in_ok-signal-in-Some-Name.ensures.if_declared in
    lay_all _ [] _ _ _ _ _ _ (name c.in-Some-Name.name.now) (named c.in-Some-Name.name.now ∷ []) [] (row.Signal c.in_ok-signal-in-Some-Name.signal) _ _ _ _ refl (ends_one s) (each_one (Good _) (named c.in-Some-Name.name.now) (n.0, (c.in_ok-signal-in-Some-Name.signal, n.1))) (c.in_ok-signal-in-Some-Name.signal, n.1, refl) refl refl (omega arith) (omega arith) c.lay-in-Some-Name.ensures.laid_if_room

pub formula-returns-in_err-signal-in-Some-Name-clause-formula_read : goal.formula-returns-in_err-signal-in-Some-Name-clause-formula_read
formula-returns-in_err-signal-in-Some-Name-clause-formula_read t c =
    let s = step_at _ _ (Name c.in-Some-Name.name) _ _ c.in_ok-step.ensures.next_item (grind arith) in
    passed_on (FormedAt _ _ _ _ _ _ _) _ c.from_residual-in_err-signal-in-Some-Name.ensures.1 (name_refused _ _ _ _ _ _ _ _ (omega arith) s c.in_err-signal-in-Some-Name.ensures.if_declared)

pub formula-returns-in_err-inner-in-Some-Unary-clause-formula_read : goal.formula-returns-in_err-inner-in-Some-Unary-clause-formula_read
formula-returns-in_err-inner-in-Some-Unary-clause-formula_read t c =
    let s = step_at _ _ (Unary c.in-Some-Unary.operator) _ _ c.in_ok-step.ensures.next_item (grind arith) in
    passed_on (FormedAt _ _ _ _ _ _ _) _ c.from_residual-in_err-inner-in-Some-Unary.ensures.1 (under_refused c.in-Some-Unary.operator s c.in_err-inner-in-Some-Unary.ensures.formula_read)

pub formula-returns-in_ok-inner-in-Some-Unary-clause-formula_read : goal.formula-returns-in_ok-inner-in-Some-Unary-clause-formula_read
formula-returns-in_ok-inner-in-Some-Unary-clause-formula_read t c =
    let s = step_at _ _ (Unary c.in-Some-Unary.operator) _ _ c.in_ok-step.ensures.next_item (grind arith) in
    under_formed _ _ _ s c.in_ok-inner-in-Some-Unary.ensures.formula_read c.lay-in-Some-Unary.ensures.laid_if_room

pub formula-returns-in-Some-Open-clause-formula_read : goal.formula-returns-in-Some-Open-clause-formula_read
formula-returns-in-Some-Open-clause-formula_read t c =
    let s = step_at _ _ Open _ _ c.in_ok-step.ensures.next_item (grind arith) in
    open_formed _ _ _ _ _ _ s c.bracket.ensures.bracket_read

apart : (t : ℕ) (c : goal.formula-After-out_of_place t) (u : Token) → c.in_ok-step.step.token ≡ Some u → Opening (shown u) → ⊥
apart t c u e w = grind arith

pub formula-returns-in-Some-Colon-clause-formula_read : goal.formula-returns-in-Some-Colon-clause-formula_read
formula-returns-in-Some-Colon-clause-formula_read t c =
    rw c.out_of_place.ensures.at_its_place (start_refused _ _ _ _ _ (omega arith) (not_wanted Opening _ _ _ _ c.in_ok-step.ensures.next_item (apart t c)))

-- the readers of a bracket

pub bracket-returns-in_err-left-clause-bracket_read : goal.bracket-returns-in_err-left-clause-bracket_read
bracket-returns-in_err-left-clause-bracket_read t c =
    passed_on (FormedAt _ _ _ _ _ _ _) _ c.from_residual.ensures.1 (lift_at left_ctx [] refl refl (All-nil (Good _)) refl (omega arith) c.in_err-left.ensures.formula_read)

pub bracket-returns-in_err-operator-clause-bracket_read : goal.bracket-returns-in_err-operator-clause-bracket_read
bracket-returns-in_err-operator-clause-bracket_read t c =
    passed_on (FormedAt _ _ _ _ _ _ _) _ c.from_residual-in_err-operator.ensures.1 (left_refused c.in_ok-left.ensures.formula_read _ c.in_err-operator.ensures.if_next)

pub bracket-formula-requires-2 : goal.bracket-formula-requires-2
bracket-formula-requires-2 t c =
    let r = c.in_ok-left.ensures.formula_read in
    let o = ends_onto r.ends in
    let s = step_onto _ _ _ _ c.in_ok-operator.ensures.if_next.1 in
    omega arith

pub bracket-returns-in_err-right-clause-bracket_read : goal.bracket-returns-in_err-right-clause-bracket_read
bracket-returns-in_err-right-clause-bracket_read t c =
    passed_on (FormedAt _ _ _ _ _ _ _) _ c.from_residual-in_err-right.ensures.1 (right_refused c.in_ok-left.ensures.formula_read c.in_ok-operator.ensures.if_next.1 _ c.in_err-right.ensures.formula_read)

pub bracket-returns-in_err-last-clause-bracket_read : goal.bracket-returns-in_err-last-clause-bracket_read
bracket-returns-in_err-last-clause-bracket_read t c =
    passed_on (FormedAt _ _ _ _ _ _ _) _ c.from_residual-in_err-last.ensures.1 (close_refused c.in_ok-left.ensures.formula_read c.in_ok-operator.ensures.if_next.1 c.in_ok-right.ensures.formula_read _ c.in_err-last.ensures.if_next)

pub bracket-returns-clause-bracket_read : goal.bracket-returns-clause-bracket_read
bracket-returns-clause-bracket_read t c =
    pair_formed c.in_ok-left.ensures.formula_read c.in_ok-operator.ensures.if_next.1 c.in_ok-right.ensures.formula_read c.in_ok-last.after _ _ _ _ c.in_ok-last.ensures.if_next c.lay.ensures.laid_if_room
