-- What `canboot check --explain` does (own).
use Rattle.std.specs.Prelude.{◌++◌, ℕ, List, Option}
use Rattle.std.specs.Io.KnownBytes.{Appends}
use Rattle.cm_netlist.specs.Network.{Network}
use Rattle.cm_netlist.specs.ListsRead.{IsList}
use Rattle.canboot_check.specs.Check.{check_line}
use Rattle.canboot_lists.specs.Explained.{explained}

-- the input was read to its end, and just the line of the network list that its bytes say was written, and what that list comes to
pub record ExplainsList (input input' output output' : Option (List ℕ)) : Type 0 where
  pub net : Network
  pub list : IsList input input' net
  pub written : Appends output output' (check_line net ++ explained net)
