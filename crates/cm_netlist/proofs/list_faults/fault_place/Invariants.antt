use Rattle.std.proofs.Common.{◌≡◌, false, take}
use Rattle.std.specs.Prelude.{codes}
use Rattle.toml.specs.View.{table_view}
use Rattle.cm_netlist.specs.FaultPlaces.{slave_elements}
use Rattle.cm_netlist.specs.FaultWalk.{elements_have}
use Rattle.cm_netlist.specs.Table.{number_at}
use Rattle.cm_netlist.proofs.list_faults.fault_place.Given as goal

abbrev pub invariant-loop-place : goal.invariant-loop-place
invariant-loop-place l = elements_have l.fn.fault (number_at (codes "own") (table_view l.fn.table)) (take l.place (slave_elements (table_view l.fn.table))) ≡ false
