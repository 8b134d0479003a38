use Rattle.std.proofs.Common.{length}
use Rattle.cm_can.proofs.text.+read_pairs.Given as goal

abbrev pub decreases-read_pairs : goal.decreases-read_pairs
decreases-read_pairs l = length l.text.now
