use Rattle.std.proofs.Common.{◌≡◌, Some, refl, arith}
use Rattle.text.specs.declared.token.Token.{Token}
use Rattle.text.specs.Scanning.{shown}
use Rattle.text.specs.Readers.{ClosingTold, Shuts, no_token}
use Rattle.text.proofs.Formulas.{passed_on, not_wanted}
use Rattle.text.proofs.cursor.Cursor.closing.Goals as goal

pub returns-in_err-step : goal.returns-in_err-step
returns-in_err-step c = record { if_next = passed_on (ClosingTold c.args.self) _ c.from_residual.ensures.1 (no_token _ refl c.in_err-step.ensures.next_item) }

apart : (c : goal.After-out_of_place) (t : Token) → c.in_ok-step.step.token ≡ Some t → Shuts (shown t) → ⊥
apart c t e w = grind arith

pub returns-in_default : goal.returns-in_default
returns-in_default c = record { if_next = rw c.out_of_place.ensures.at_its_place (not_wanted Shuts _ _ _ _ c.in_ok-step.ensures.next_item (apart c)) }
