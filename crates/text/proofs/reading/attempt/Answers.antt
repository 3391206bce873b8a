use Rattle.std.proofs.Common.{arith, length-take-le}
use Rattle.text.proofs.Strips.{attempted}
use Rattle.text.proofs.reading.attempt.Goals as goal

pub returns : goal.returns
returns c = record { attempted = attempted _ c.args.rows.now c.parse.new.rows c.args.names.now c.parse.new.names c.parse.result (omega arith) (omega arith) (omega arith) (omega (arith, length-take-le 64 c.args.rows.now)) (omega (arith, length-take-le 16 c.args.names.now)) c.parse.ensures.text_read }
