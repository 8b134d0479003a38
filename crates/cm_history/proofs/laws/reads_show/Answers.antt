use Rattle.cm_history.proofs.Shown.{reads_show}
use Rattle.cm_history.proofs.laws.reads_show.Goals as goal

pub returns : goal.returns
returns c = record { law = λ net past node. reads_show net past node }
