use Rattle.toml.specs.View.{table_view}
use Rattle.cm_netlist.proofs.Build.{IsSlave-from_addable}
use Rattle.cm_netlist.proofs.document.named.add_slave.Goals as goal

pub node_at-requires : goal.node_at-requires
node_at-requires c = (IsSlave-from_addable c.args.network.now (table_view c.args.slave.now) c.requires).id

pub read_entry-requires : goal.read_entry-requires
read_entry-requires c = IsSlave-from_addable c.args.network.now (table_view c.args.slave.now) c.requires
