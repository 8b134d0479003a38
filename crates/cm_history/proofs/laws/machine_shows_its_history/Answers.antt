use Rattle.cm_history.proofs.Runs.{shows_its_history}
use Rattle.cm_history.proofs.laws.machine_shows_its_history.Goals as goal

pub returns : goal.returns
returns c = record { law = λ net past nodes h. shows_its_history net past nodes h }
