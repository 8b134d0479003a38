-- What the bytes of a network list say, and what was read of an input (own).
use Rattle.std.specs.Prelude.{◌≡◌, ◌⊎◌, ℕ, List, IsSome, IsUtf8, Option, Some, None}
use Rattle.toml.specs.Data.{Members}
use Rattle.toml.specs.Parse.{parse_document}
use Rattle.cm_text.specs.Input.{ReadsAll}
use Rattle.cm_netlist.specs.Network.{Network}
use Rattle.cm_netlist.specs.Document.{fault_of, text_fault}
use Rattle.cm_netlist.specs.Named.{network_of}
use Rattle.cm_netlist.specs.declared.list_reading.CheckFault.{CheckFault}
use Rattle.cm_netlist.specs.declared.list_reading.CheckFault.TheVariants as fault

-- one of the faults of a network list applies to the bytes: they aren't UTF-8, or they aren't TOML, or their table has
-- one
abbrev pub HasFault : List ℕ → Type 0
HasFault bytes = (¬ (IsUtf8 bytes)) ⊎ IsSome (text_fault (parse_document bytes))

-- the input was read to its end, its bytes are a text whose table has no fault, and this is the network list that the
-- table names
pub record IsList (input input' : Option (List ℕ)) (net : Network) : Type 0 where
  pub bytes : List ℕ
  pub list : Members
  pub read : ReadsAll 1048576 input input' bytes
  pub utf8 : IsUtf8 bytes
  pub parsed : parse_document bytes ≡ Some list
  pub faultless : fault_of list ≡ None
  pub named : net ≡ network_of list

-- the bytes are a text whose table has no fault, and this is the network list that the table names
pub record IsListOf (bytes : List ℕ) (net : Network) : Type 0 where
  pub list : Members
  pub utf8 : IsUtf8 bytes
  pub parsed : parse_document bytes ≡ Some list
  pub faultless : fault_of list ≡ None
  pub named : net ≡ network_of list

-- the input was read to its end, and a fault applies to its bytes
pub record IsFaultyText (input input' : Option (List ℕ)) : Type 0 where
  pub bytes : List ℕ
  pub read : ReadsAll 1048576 input input' bytes
  pub fault : HasFault bytes

-- what a fault says of the bytes: that one applies to them; want of memory says nothing
abbrev pub IsFaultOf : List ℕ → CheckFault → Type 0
IsFaultOf bytes (fault.List f) = HasFault bytes
IsFaultOf bytes (fault.Input f) = Unit {0}

-- what a fault says of the input; of a failed read, or of want of memory, it says nothing
abbrev pub IsFaulty : Option (List ℕ) → Option (List ℕ) → CheckFault → Type 0
IsFaulty input input' (fault.List f) = IsFaultyText input input'
IsFaulty input input' (fault.Input f) = Unit {0}

-- the list has a fault
abbrev pub IsFaultOfList : CheckFault → Type 0
IsFaultOfList (fault.List f) = Unit {0}
IsFaultOfList (fault.Input f) = ⊥
