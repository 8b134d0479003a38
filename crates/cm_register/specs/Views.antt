-- What a contract sees of a book and a register (own).
use Rattle.std.specs.Prelude.{ℕ, List}
use Rattle.cm_nmt.specs.declared.frame.Frame.{Frame}
use Rattle.cm_history.specs.declared.call.Entry.{Entry}
use Rattle.cm_netlist.specs.Network.{Network}

-- a book: its history with the oldest entry first, the frames sent and the room on the wire, and the total of the ledger
-- of which each seat has a share
pub record BookView : Type 0 where
  pub history : List Entry
  pub sent : List Frame
  pub room : ℕ
  pub total : ℕ

-- a register: its network list, and how many seats were made; what is under its lock has no name
pub record RegisterView : Type 0 where
  pub net : Network
  pub seats : ℕ
