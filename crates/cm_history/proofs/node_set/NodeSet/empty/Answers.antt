use Rattle.cm_history.proofs.NodeSets.{none_counted}
use Rattle.cm_history.proofs.node_set.NodeSet.empty.Goals as goal

pub invariant_of-result : goal.invariant_of-result
invariant_of-result c = record { counted = none_counted }
