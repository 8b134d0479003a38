use Rattle.std.proofs.Common.{arith}
use Rattle.cm_can.proofs.Digits.{no_more}
use Rattle.cm_can.proofs.text.read_bytes.Goals as goal

pub returns-then-text-gt16-clause-none : goal.returns-then-text-gt16-clause-none
returns-then-text-gt16-clause-none c = λ bytes few small spelled. no_more c.args.text.now bytes (omega (arith, c.if-text-gt16.true)) few spelled
