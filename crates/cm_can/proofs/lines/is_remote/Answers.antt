use Rattle.std.proofs.Common.{arith}
use Rattle.cm_can.proofs.Tails.{remote_tail}
use Rattle.cm_can.proofs.lines.is_remote.Goals as goal

pub returns-else-count-gt56-clause-yes : goal.returns-else-count-gt56-clause-yes
returns-else-count-gt56-clause-yes c =
    λ yes. remote_tail c.args.tail.now c.in-len1-up.len_at_least (omega (arith, c.if-letter-ne82.false)) (omega (arith, c.in-len1.len_at_least, c.in-len1.len_below)) (omega (arith, c.if-count-lt48.false)) (omega (arith, c.if-count-gt56.false))
