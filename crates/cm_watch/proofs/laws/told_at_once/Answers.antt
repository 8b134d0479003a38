use Rattle.cm_watch.proofs.Limits.{told_at_once}
use Rattle.cm_watch.proofs.laws.told_at_once.Goals as goal

pub returns : goal.returns
returns c = told_at_once
