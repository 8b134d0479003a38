use Rattle.cm_history.proofs.Operational.{network_becomes_operational}
use Rattle.cm_history.proofs.laws.network_becomes_operational_rightly.Goals as goal

pub returns : goal.returns
returns c = record { law = λ net past h. network_becomes_operational net past h }
