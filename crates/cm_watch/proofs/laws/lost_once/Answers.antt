use Rattle.cm_watch.proofs.Losses.{lost_once}
use Rattle.cm_watch.proofs.laws.lost_once.Goals as goal

pub returns : goal.returns
returns c = lost_once
