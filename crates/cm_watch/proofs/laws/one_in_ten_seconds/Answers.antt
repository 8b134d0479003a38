use Rattle.cm_watch.proofs.Limits.{one_in_ten_seconds}
use Rattle.cm_watch.proofs.laws.one_in_ten_seconds.Goals as goal

pub returns : goal.returns
returns c = one_in_ten_seconds
