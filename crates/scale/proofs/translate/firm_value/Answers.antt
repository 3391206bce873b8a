use Rattle.std.proofs.Common.{rules}
use Rattle.scale.proofs.Firm.{firm_keeps}
use Rattle.scale.proofs.translate.firm_value.Goals as goal

pub returns-in-No : goal.returns-in-No
returns-in-No g c = record { no_or_yes = search rules; a_translation = firm_keeps g.met.S.Scale.lawful }

pub returns-in-Yes : goal.returns-in-Yes
returns-in-Yes g c = record { no_or_yes = search rules; a_translation = firm_keeps g.met.S.Scale.lawful }
