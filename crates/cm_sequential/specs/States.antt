-- What the manager keeps, and when it is what a history says (own).
use Rattle.std.specs.Prelude.{◌≡◌, ◌<◌, ℕ, if◌then◌else◌, ◌==◌, List, Option, Some, None}
use Rattle.std.specs.List.{slice_index_or}
use Rattle.cm_nmt.specs.Listing.{Listing}
use Rattle.cm_history.specs.History.{begun_in, is_booted, is_held, own_of, phase_of, session_of, state_of}
use Rattle.cm_history.specs.declared.call.Entry.{Entry}
use Rattle.cm_history.specs.declared.slave.Slave.{Slave}
use Rattle.cm_history.specs.NodeSets.{has}
use Rattle.cm_sequential.specs.declared.listing_copy.ListingCopy.{ListingCopy}
use Rattle.cm_sequential.specs.declared.slaves.SlaveTable.{SlaveTable}
use Rattle.cm_sequential.specs.declared.state.NetworkState.{NetworkState}

-- what the manager's copy of its network list says; the terms of node i stand at place i
unfoldable pub kept_listing : ListingCopy → Listing
kept_listing copy = record {
  own = copy.own;
  startup = copy.startup.0;
  boot_time = copy.boot_time;
  terms = λ i. slice_index_or copy.terms i None;
}

-- the session of this number; 0 stands where none is open
abbrev pub session_numbered : ℕ → Option ℕ
session_numbered n = if n == 0 then None else Some n

-- what the table keeps of node i
abbrev pub kept_slave : SlaveTable → ℕ → Slave
kept_slave t i = record {
  state = slice_index_or t.states i 0;
  booted = has t.booted i;
  session = session_numbered (slice_index_or t.sessions i 0);
}

-- the state is that of the history over this listing: its own node-ID is the listing's; its phase, own state and number
-- of sessions begun are those of the history, and so are the state of each node, whether it is booted, its session, and
-- whether it is held
pub record Shows (s : NetworkState) (net : Listing) (past : List Entry) : Type 0 where
  pub own_id : s.own_id ≡ net.own
  pub phase : s.phase ≡ phase_of net past
  pub own : s.own ≡ own_of net past
  pub begun : s.begun ≡ begun_in past
  pub state : (i : ℕ) → i < 128 → (kept_slave s.slaves i).state ≡ state_of net past i
  pub booted : (i : ℕ) → i < 128 → (kept_slave s.slaves i).booted ≡ is_booted past i
  pub session : (i : ℕ) → i < 128 → (kept_slave s.slaves i).session ≡ session_of past i
  pub held : (i : ℕ) → has s.held i ≡ is_held past i
