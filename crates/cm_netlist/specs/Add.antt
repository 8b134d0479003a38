-- Which entries a network list takes.
use Rattle.std.specs.Prelude.{ℕ, ◌==◌, not, if◌then◌else◌, Option, Some, None}
use Rattle.cm_nmt.specs.Bits.{has_bit}
use Rattle.cm_netlist.specs.Network.{Network, is_listed}
use Rattle.cm_nmt.specs.Write.{all_fit}
use Rattle.cm_netlist.specs.declared.entry.SlaveEntry.{SlaveEntry}
use Rattle.cm_netlist.specs.declared.fault.NetFault.{NetFault}
use Rattle.cm_netlist.specs.declared.fault.NetFault.TheVariants.{DoubleSlave, OwnListed, NotListedBit, ValueTooWide}

-- why the entry is refused at this node: the first of the four that applies, and none where it is
-- taken (own)
abbrev pub add_fault : Network → ℕ → SlaveEntry → Option NetFault
add_fault net i e =
    if is_listed net i then Some DoubleSlave
    else if net.own == i then Some OwnListed
    else if not (has_bit e.assignment.0 0) then Some NotListedBit
    else if not (all_fit e.writes.items) then Some ValueTooWide
    else None
