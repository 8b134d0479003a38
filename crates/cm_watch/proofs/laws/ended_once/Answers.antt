use Rattle.cm_watch.proofs.Limits.{ended_once}
use Rattle.cm_watch.proofs.laws.ended_once.Goals as goal

pub returns : goal.returns
returns c = ended_once
