use Rattle.std.proofs.Common.{length}
use Rattle.cm_register.proofs.compare.+are_known.Given as goal

abbrev pub decreases-are_known : goal.decreases-are_known
decreases-are_known g l = length l.seats.now
