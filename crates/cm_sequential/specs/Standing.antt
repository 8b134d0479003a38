-- When a manager stands for a history: what its readers show is what the history says (own).
use Rattle.std.specs.Prelude.{◌≡◌, ℕ, List}
use Rattle.cm_netlist.specs.Network.{Network, IsNetwork, listing}
use Rattle.cm_nmt.specs.Listing.{Listing}
use Rattle.cm_history.specs.Machine.{answer_in, open_in}
use Rattle.cm_history.specs.declared.call.Call.{Call}
use Rattle.cm_history.specs.declared.call.Reply.{Reply}
use Rattle.cm_history.specs.declared.call.Orders.{Orders}
use Rattle.cm_history.specs.declared.call.Entry.{Entry}
use Rattle.cm_sequential.specs.Changes.{machine}
use Rattle.cm_sequential.specs.States.{kept_listing, Shows}
use Rattle.cm_sequential.specs.declared.manager.Manager.{Manager}

-- the network list that the manager keeps
abbrev pub listing_in : Manager → Listing
listing_in m = kept_listing m.listing

-- how many sessions the manager has begun
abbrev pub sessions_begun : Manager → ℕ
sessions_begun m = m.state.begun

-- the manager stands for the history of this network: its copy of the list is that list, and its state is the history's
pub record Stands (m : Manager) (net : Network) (past : List Entry) : Type 0 where
  pub network : IsNetwork net
  pub same_listing : listing_in m ≡ listing net
  pub same_state : Shows m.state (listing net) past

-- the mandatory slaves that aren't booted, as the manager has them
abbrev pub still_open : Manager → List ℕ
still_open m = open_in (listing_in m) (machine m.state).slaves

-- the reply and the orders are what the machine answers to the call, from what the manager has
abbrev pub IsAnswer : Manager → Call → Reply → Orders → Type 0
IsAnswer m c r o = (r, o) ≡ answer_in (listing_in m) (machine m.state) c
