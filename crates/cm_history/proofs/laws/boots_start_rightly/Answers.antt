use Rattle.cm_history.proofs.Started.{boots_start}
use Rattle.cm_history.proofs.laws.boots_start_rightly.Goals as goal

pub returns : goal.returns
returns c = record { law = λ net past h. boots_start net past h }
