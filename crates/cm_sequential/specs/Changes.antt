-- Working definitions, behind `Stands`: what they hold shows in the contracts of the manager's readers.
-- What the manager keeps, as the machine of cm_history, and what a change of its table does to each slave.
use Rattle.std.specs.Prelude.{◌≡◌, ◌<◌, ℕ, Bool, false, ◌==◌, ◌&&◌, ◌||◌, not, if◌then◌else◌, Option, Some, None}
use Rattle.cm_nmt.specs.Codes.{state_left}
use Rattle.cm_nmt.specs.declared.command.Command.{Command}
use Rattle.cm_nmt.specs.Listing.{Listing, is_listed, is_mandatory}
use Rattle.cm_history.specs.Orders.{is_reset}
use Rattle.cm_history.specs.Machine.{ListsNodes, Machine, after, obeyed, of_nodes, seen_in}
use Rattle.cm_history.specs.Answering.{first_refusal, granted_answer, node_named, refusals}
use Rattle.cm_history.specs.declared.call.Call.{Call}
use Rattle.cm_history.specs.declared.call.Reply.{Reply}
use Rattle.cm_history.specs.declared.call.Orders.{Orders}
use Rattle.cm_history.specs.declared.slave.Slave.{Slave}
use Rattle.cm_history.specs.NodeSets.{has}
use Rattle.cm_sequential.specs.States.{kept_slave}
use Rattle.cm_sequential.specs.declared.slaves.SlaveTable.{SlaveTable}
use Rattle.cm_sequential.specs.declared.state.NetworkState.{NetworkState}

-- the state as a machine
abbrev pub machine : NetworkState → Machine
machine s = record { phase = s.phase; own = s.own; begun = s.begun; slaves = of_nodes (kept_slave s.slaves); held = has s.held }

-- ---- what the manager's type keeps

-- the open slaves are the mandatory ones that aren't booted
abbrev pub IsCounted : Listing → SlaveTable → Type 0
IsCounted net t = (i : ℕ) → i < 128 → has t.unbooted i ≡ (is_mandatory net i && not (has t.booted i))

-- the state is one of this listing: the own node-ID is the listing's and isn't a slave's, no number above 127 is listed,
-- the open slaves are counted, and what isn't listed has no state
pub record Fits (net : Listing) (s : NetworkState) : Type 0 where
  pub own_id : s.own_id ≡ net.own
  pub own_unlisted : is_listed net net.own ≡ false
  pub nodes : ListsNodes net
  pub counted : IsCounted net s.slaves
  pub unlisted : (i : ℕ) → i < 128 → is_listed net i ≡ false → (kept_slave s.slaves i).state ≡ 0

-- the call isn't refused, and its reply and orders are those of the tables
pub record IsGranted (net : Listing) (s : NetworkState) (c : Call) (r : Reply) (o : Orders) : Type 0 where
  pub unrefused : first_refusal (refusals net (seen_in net (machine s) (node_named c)) c) ≡ None
  pub answer : (r, o) ≡ granted_answer net (seen_in net (machine s) (node_named c)) c

-- the state has gone on as the machine does, and fits
pub record GoneOn (net : Listing) (s : NetworkState) (c : Call) (r : Reply) (o : Orders) (s' : NetworkState) : Type 0 where
  pub step : machine s' ≡ after net (machine s) c r o
  pub fits : Fits net s'

-- a state that fits goes on
pub record Goes (net : Listing) (s : NetworkState) (c : Call) (r : Reply) (o : Orders) (s' : NetworkState) : Type 0 where
  pub on : Fits net s → GoneOn net s c r o s'

-- ---- changes of a slave

-- a slave in another state
abbrev pub in_state : ℕ → Slave → Slave
in_state v slave = record slave { state = v }

-- a slave whose boot begins
abbrev pub in_session : ℕ → Slave → Slave
in_session n slave = record slave { session = Some n }

-- a slave whose boot is reported, in the state that it leaves
abbrev pub boot_ended : Bool → ℕ → Slave → Slave
boot_ended good v slave = record { state = v; booted = good || slave.booted; session = None }

-- a slave that isn't booted and has no session
abbrev pub cleared : Slave → Slave
cleared slave = record slave { booted = false; session = None }

-- a slave after a command to all, where there is one
abbrev pub obeying : Option Command → Slave → Slave
obeying c slave = record slave { state = obeyed c slave.state }

-- a slave after a command to it alone
abbrev pub obeying_alone : Command → Slave → Slave
obeying_alone c slave = if is_reset c then in_state (state_left c) (cleared slave) else in_state (state_left c) slave

-- the slave of one node changed, the others left
abbrev pub at_node : ℕ → (Slave → Slave) → (ℕ → Slave) → ℕ → Slave
at_node k change slaves i = if k == i then change (slaves i) else slaves i
