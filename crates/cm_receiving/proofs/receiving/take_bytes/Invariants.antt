use Rattle.std.proofs.Common.{◌≡◌, ◌+◌}
use Rattle.cm_receiving.proofs.receiving.take_bytes.Given as goal

abbrev pub invariant-loop-byte : goal.invariant-loop-byte
invariant-loop-byte g l = l.cutter ≡ l.fn.cutter + l.byte-index
