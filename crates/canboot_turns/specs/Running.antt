-- Which nodes a live run tells as running on (own).
use Rattle.std.specs.Prelude.{◌≡◌, ℕ, List, reverse}
use Rattle.cm_history.specs.Legal.{IsLegal}
use Rattle.cm_history.specs.declared.call.Entry.{Entry}
use Rattle.cm_netlist.specs.Network.{Network, listing}
use Rattle.cm_register.specs.Reads.{IsKnown}
use Rattle.cm_register.specs.SeatViews.{SeatView}
use Rattle.cm_words.specs.ToldLines.{running_in}

-- these nodes are operational behind a legal history that begins with what the seat knows of it (own)
pub record AreRunningOn (net : Network) (seat : SeatView) (nodes : List ℕ) : Type 0 where
  pub history : List Entry
  pub legal : IsLegal (listing net) (reverse history)
  pub known : IsKnown history seat
  pub running : nodes ≡ running_in net (reverse history)
