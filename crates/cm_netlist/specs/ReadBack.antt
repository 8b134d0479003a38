-- When a text is, behind the lines of a manager, the network list of one slave (own).
use Rattle.std.specs.Prelude.{◌≡◌, ◌==◌, ℕ, List, [], ◌∷◌, ◌++◌, Some, None, codes, if◌then◌else◌}
use Rattle.toml.specs.Data.{Members}
use Rattle.toml.specs.Parse.{parse_document}
use Rattle.cm_netlist.specs.Document.{fault_of}
use Rattle.cm_netlist.specs.Named.{network_of}
use Rattle.cm_netlist.specs.Network.{Network, entry, listed_ids}
use Rattle.cm_netlist.specs.declared.entry.SlaveEntry.{SlaveEntry}

-- a text on a line of its own
abbrev pub lined : List ℕ → List ℕ
lined text = text ++ 10 ∷ []

-- the lines of a manager, which isn't the slave itself
abbrev pub manager_text : ℕ → List ℕ
manager_text node = lined (if node == 1 then codes "own = 2" else codes "own = 1") ++ lined (codes "startup = 1")

-- the text is that of a network list without a fault, in which just this slave is listed, with this entry
pub record IsListOf (text : List ℕ) (node : ℕ) (e : SlaveEntry) : Type 0 where
  pub list : Members
  pub parsed : parse_document text ≡ Some list
  pub faultless : fault_of list ≡ None
  pub only : listed_ids (network_of list) ≡ node ∷ []
  pub is : entry (network_of list) node ≡ Some e

-- Working definition: no public contract cites it.

-- just this slave is listed, with this entry
pub record ListsOnly (network : Network) (node : ℕ) (e : SlaveEntry) : Type 0 where
  pub only : listed_ids network ≡ node ∷ []
  pub is : entry network node ≡ Some e
