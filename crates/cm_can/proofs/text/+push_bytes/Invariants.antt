use Rattle.std.proofs.Common.{length}
use Rattle.cm_can.proofs.text.+push_bytes.Given as goal

abbrev pub decreases-push_bytes : goal.decreases-push_bytes
decreases-push_bytes l = length l.bytes.now
