use Rattle.std.proofs.Common.{ap, arith, length}
use Rattle.cm_can.proofs.Digits.{length-byte_digits}
use Rattle.cm_can.proofs.adapter.data_frame.Goals as goal

pub returns-then-len-from-clause-none : goal.returns-then-len-from-clause-none
returns-then-len-from-clause-none c =
    λ bytes few small text count.
    absurd (omega (arith, length-byte_digits bytes, length-byte_digits c.in-Some.bytes.items, ap length text, ap length c.in-Some.ensures.some, count, c.if-len-from.true, c.len.ensures.value, c.from.ensures))
