-- What the fields of a `Network` stand for.
use Rattle.std.specs.Prelude.{IsTrue}
use Rattle.std.specs.Ordering.{nat_cmp}
use Rattle.std.specs.FinMap as map
use Rattle.std.specs.FinMap.{is_sorted}
use Rattle.cm_netlist.specs.Network.{Network, IsNetwork}
use Rattle.cm_netlist.specs.declared.network.Network.TheInside.{Inside}

-- the network list that the fields hold
abbrev pub view_of : Inside → Network
view_of n = record { own = n.own; startup = n.startup.0; boot_time = n.boot_time; slaves = map.from_sorted n.slaves.entries }

-- the map is in order, and the list is what every network list is
pub record IsKept (n : Inside) : Type 0 where
  pub sorted : IsTrue (is_sorted nat_cmp n.slaves.entries)
  pub network : IsNetwork (view_of n)
