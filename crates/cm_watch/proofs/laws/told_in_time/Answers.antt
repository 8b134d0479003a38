use Rattle.cm_watch.proofs.Limits.{told_in_time}
use Rattle.cm_watch.proofs.laws.told_in_time.Goals as goal

pub returns : goal.returns
returns c = told_in_time
