use Rattle.std.proofs.Common.{◌≡◌, ◌∙◌, ap, sym, Some}
use Rattle.toml.specs.View.{table_view}
use Rattle.cm_netlist.specs.declared.fault.NetFault.{NetFault}
use Rattle.cm_netlist.specs.declared.fault.NetFault.TheVariants.{OutOfMemory}
use Rattle.cm_netlist.proofs.Build.{IsTop-from_no_fault, not_memory}
use Rattle.cm_netlist.proofs.network.Network.from_table.Goals as goal

pub network_of-requires : goal.network_of-requires
network_of-requires c = IsTop-from_no_fault (table_view c.args.table.now) (sym c.fault_of.ensures ∙ c.in-None.is)

pub returns-in-Some-clause-memory : goal.returns-in-Some-clause-memory
returns-in-Some-clause-memory c = λ e.
    let is : c.in-Some.fault ≡ OutOfMemory = cc in
    absurd (not_memory (table_view c.args.table.now) (sym c.fault_of.ensures ∙ c.in-Some.is ∙ ap (λ (f : NetFault). Some f) is))
