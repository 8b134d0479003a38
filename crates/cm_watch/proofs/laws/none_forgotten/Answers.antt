use Rattle.cm_watch.proofs.Causes.{not_forgotten}
use Rattle.cm_watch.proofs.laws.none_forgotten.Goals as goal

pub returns : goal.returns
returns c = not_forgotten
