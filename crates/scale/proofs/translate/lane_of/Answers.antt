use Rattle.std.proofs.Common.{◌==◌, ap, ◌∙◌}
use Rattle.std.proofs.lemmas.Nat.Bits.{shr_and_one}
use Rattle.scale.specs.Lanes.{bit}
use Rattle.scale.proofs.Firm.{lane_keeps}
use Rattle.scale.proofs.translate.lane_of.Goals as goal

pub returns : goal.returns
returns c =
    let value = c.from.ensures ∙ ap (λ n. n == 1) (shr_and_one c.bits.result c.args.i) ∙ ap (λ n. bit n c.args.i) c.bits.ensures.the_number in
    record { the_lane = record { within = c.if-i-ge64.false; value = value; translates = lane_keeps _ } }
