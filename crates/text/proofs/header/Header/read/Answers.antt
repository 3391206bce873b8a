use Rattle.std.proofs.Common.{◌≡◌, ℕ, None, Option, rules, Some, Ok, Err, refl, sym, ap, ◌∙◌, subst, arith}
use Rattle.std.specs.Option.{ok_or}
use Rattle.rule.specs.declared.refusal.Fault.{Fault}
use Rattle.text.specs.Strips.{LaidTold}
use Rattle.text.specs.declared.token.Token.{Token}
use Rattle.text.specs.declared.token.Token.TheVariants.{Name, Colon}
use Rattle.text.specs.Scanning.{shown}
use Rattle.text.specs.Readers.{no_token, names_in, Admitted, Follows, HeadTold}
use Rattle.text.proofs.Formulas.{passed_on, step_at, lex_upto, not_wanted}
use Rattle.text.proofs.Headers.{cut_refused, name_refused, lay_one, no_room}
use Rattle.text.proofs.header.Header.read.Goals as goal

room_is : (r : Option ℕ) (g : Fault) (i : ℕ) → ok_or r g ≡ Ok i → r ≡ Some i
room_is None g i h = search rules
room_is (Some k) g i h = search rules

none_is : (r : Option ℕ) (g e : Fault) → ok_or r g ≡ Err e → (r ≡ None) × (g ≡ e)
none_is None g e h = search rules
none_is (Some k) g e h = search rules

pub invariant_of-from : goal.invariant_of-from
invariant_of-from c = let u = lex_upto _ _ _ c.loop-step.invariant.1.read in record { fits = omega arith }

pub returns-in_err-step : goal.returns-in_err-step
returns-in_err-step c =
    record { same_reference = grind arith; header_read = passed_on (HeadTold c.args.text.now c.args.spans.now.places.now _ _) _ c.from_residual.ensures.1 (cut_refused _ _ _ _ _ c.loop-step.invariant.1 _ (no_token _ refl c.in_err-step.ensures.next_item)) }

pub returns-in_err-admit-in-Some-Name : goal.returns-in_err-admit-in-Some-Name
returns-in_err-admit-in-Some-Name c =
    let s = step_at _ _ (Name c.in-Some-Name.name) _ _ c.in_ok-step.ensures.next_item (grind arith) in
    let f = c.loop-step.invariant.1 in
    let same = ap (names_in c.args.text.now) c.laid.ensures.the_front ∙ f.names_are in
    record { same_reference = grind arith; header_read = passed_on (HeadTold c.args.text.now c.args.spans.now.places.now _ _) _ c.from_residual-in_err-admit-in-Some-Name.ensures.1 (name_refused _ _ _ _ _ f _ _ _ _ s (subst (λ hs. Admitted hs c.in-Some-Name.name.now c.in_ok-step.step.place (Err c.in_err-admit-in-Some-Name.field-0.0)) same c.in_err-admit-in-Some-Name.ensures.admitted)) }

pub loop-step-preserved : goal.loop-step-preserved
loop-step-preserved c =
    let s = step_at _ _ (Name c.in-Some-Name.name) _ _ c.in_ok-step.ensures.next_item (grind arith) in
    let f = c.loop-step.invariant.1 in
    let same = ap (names_in c.args.text.now) c.laid.ensures.the_front ∙ f.names_are in
    let a = subst (λ hs. Admitted hs c.in-Some-Name.name.now c.in_ok-step.step.place (Ok tt)) same c.in_ok-admit-in-Some-Name.ensures.admitted in
    (c.lay.ensures.same_reference ∙ c.loop-step.invariant.0, lay_one _ _ _ _ _ f _ _ _ s a.0 a.1 _ _ c.in_ok-ok_or-in-Some-Name.field-0 (subst (LaidTold _ _ _ _ _) (room_is _ _ _ (sym c.ok_or.ensures.value ∙ c.in_ok-ok_or-in-Some-Name.was)) c.lay.ensures.laid_if_room))

pub returns-in_err-ok_or-in-Some-Name : goal.returns-in_err-ok_or-in-Some-Name
returns-in_err-ok_or-in-Some-Name c =
    let s = step_at _ _ (Name c.in-Some-Name.name) _ _ c.in_ok-step.ensures.next_item (grind arith) in
    let f = c.loop-step.invariant.1 in
    let same = ap (names_in c.args.text.now) c.laid.ensures.the_front ∙ f.names_are in
    let a = subst (λ hs. Admitted hs c.in-Some-Name.name.now c.in_ok-step.step.place (Ok tt)) same c.in_ok-admit-in-Some-Name.ensures.admitted in
    record { same_reference = grind arith; header_read = passed_on (HeadTold c.args.text.now c.args.spans.now.places.now _ _) _ c.from_residual-in_err-ok_or-in-Some-Name.ensures.1 (let full = none_is _ _ _ (sym c.ok_or.ensures.value ∙ c.in_err-ok_or-in-Some-Name.was) in no_room _ _ _ _ _ f _ _ _ s a.0 a.1 _ (subst (LaidTold _ _ _ _ _) full.0 c.lay.ensures.laid_if_room).0 (sym full.1 ∙ c.at.ensures.at_place)) }

pub returns-in-Some-Colon : goal.returns-in-Some-Colon
returns-in-Some-Colon c =
    let s = step_at _ _ Colon _ _ c.in_ok-step.ensures.next_item (grind arith) in
    record { same_reference = grind arith; header_read = record { last = _; headed = c.loop-step.invariant.1; some = c.if-spans-gt0.true; place = c.in_ok-step.step.place; colon_is = s } }

apart : (c : goal.After-out_of_place) (t : Token) → c.in_ok-step.step.token ≡ Some t → Follows c.loop-step.spans.filled (shown t) → ⊥
apart c t e w = grind arith

pub returns-in_default : goal.returns-in_default
returns-in_default c = record { same_reference = grind arith; header_read = rw c.out_of_place.ensures.at_its_place (cut_refused _ _ _ _ _ c.loop-step.invariant.1 _ (not_wanted (Follows c.loop-step.spans.filled) _ _ _ _ c.in_ok-step.ensures.next_item (apart c))) }
