use Rattle.std.proofs.Common.{◌≡◌, ◌+◌}
use Rattle.cm_operator.proofs.typing.tell_bytes.Given as goal

abbrev pub invariant-loop-byte : goal.invariant-loop-byte
invariant-loop-byte g l = l.cutter ≡ l.fn.cutter + l.byte-index
