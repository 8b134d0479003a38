use Rattle.canboot_import.proofs.Given.{node_given}
use Rattle.canboot_import.proofs.imported.node_in.Goals as goal

pub returns-in-Some-node_of : goal.returns-in-Some-node_of
returns-in-Some-node_of c = λ file all. node_given file c.in-Some.item.now.value.now c.in-Some-node_of.node (c.in-Some.ensures file all) c.in-Some-node_of.ensures
