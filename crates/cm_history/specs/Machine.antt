-- Working definitions: the manager as one machine, which answers a call and goes on to its next state (own). What it keeps
-- is what a history says, and that is what counts: see the law `machine_shows_its_history`.
-- The rules are those of the tables: `answer_from` answers; what an answered call boots, clears, sets, begins and decides
-- makes the next state.
use Rattle.std.specs.Prelude.{◌≡◌, ◌≤◌, ◌<◌, ℕ, Bool, false, ◌==◌, ◌&&◌, ◌||◌, not, nat_lt, if◌then◌else◌}
use Rattle.std.specs.Prelude.{◌+◌, List, [], ◌∷◌, filter, Option, Some, None, unwrap_or}
use Rattle.std.specs.Option.{option_or, is_some}
use Rattle.cm_nmt.specs.Codes.{state_left}
use Rattle.cm_nmt.specs.declared.state.NmtState.{NmtState}
use Rattle.cm_nmt.specs.declared.state.NmtState.TheVariants as state
use Rattle.cm_nmt.specs.declared.command.Command.{Command}
use Rattle.cm_nmt.specs.Listing.{node_ids, Listing, is_listed, is_mandatory}
use Rattle.cm_history.specs.Orders.{to_all}
use Rattle.cm_history.specs.History.{phase_of, own_of, begun_in, open_of, boots_by, clears_by, sets_by, reports_by, begins_by}
use Rattle.cm_history.specs.History.{begun_number, is_start_by, decides_by, own_by, becomes_operational, holds_by, is_held}
use Rattle.cm_history.specs.Answering.{Lookup, blank_slave, slave_of, node_named, answer_from, answer_of}
use Rattle.cm_history.specs.declared.call.Call.{Call}
use Rattle.cm_history.specs.declared.call.Reply.{Reply}
use Rattle.cm_history.specs.declared.call.Orders.{Orders}
use Rattle.cm_history.specs.declared.call.Entry.{Entry}
use Rattle.cm_history.specs.declared.phase.Phase.{Phase}
use Rattle.cm_history.specs.declared.phase.Phase.TheVariants as phase
use Rattle.cm_history.specs.declared.slave.Slave.{Slave}

-- ---- what is kept

pub record Machine : Type 0 where
  pub phase : Phase
  pub own : NmtState
  pub begun : ℕ
  pub slaves : ℕ → Slave
  pub held : ℕ → Bool

-- what is kept of each node, blank for a number above 127
abbrev pub of_nodes : (ℕ → Slave) → ℕ → Slave
of_nodes slaves i = if nat_lt i 128 then slaves i else blank_slave

-- before any call
abbrev pub idle : Machine
idle = record { phase = phase.Idle; own = state.PreOperational; begun = 0; slaves = of_nodes (λ i. blank_slave); held = λ i. false }

-- the mandatory slaves that aren't booted
abbrev pub open_in : Listing → (ℕ → Slave) → List ℕ
open_in net slaves = filter (λ i. is_mandatory net i && not (slaves i).booted) node_ids

-- ---- the answer

-- what the tables look up
abbrev pub seen_in : Listing → Machine → ℕ → Lookup
seen_in net m i = record {
  phase = m.phase;
  own = m.own;
  begun = m.begun;
  open_slaves = open_in net m.slaves;
  slave = if is_listed net i then m.slaves i else blank_slave;
  held = m.held i;
}

abbrev pub answer_in : Listing → Machine → Call → Reply × Orders
answer_in net m c = answer_from net (seen_in net m (node_named c)) c

-- ---- what an answered call makes of what is kept

-- a state after a command to all: unknown and missing stay
abbrev pub obeyed : Option Command → ℕ → ℕ
obeyed None v = v
obeyed (Some c) v = if v == 0 || v == 1 then v else state_left c

-- slave i
abbrev pub slave_after : Listing → Call → Reply → Orders → ℕ → Slave → Slave
slave_after net c r o i slave = record {
  state = if is_listed net i then obeyed (to_all o) (unwrap_or (sets_by c r o i) slave.state) else 0;
  booted = boots_by c r i || (not (clears_by c r o i) && slave.booted);
  session = if reports_by c r i || clears_by c r o i then None else option_or (begins_by c r i) slave.session;
}

abbrev pub slaves_after : Listing → Call → Reply → Orders → (ℕ → Slave) → ℕ → Slave
slaves_after net c r o slaves = of_nodes (λ i. slave_after net c r o i (slaves i))

-- what an entry makes of a phase: the first one that decides after a start gives it
abbrev pub phase_then : Phase → Option Phase → Phase
phase_then phase.Booting (Some p) = p
phase_then phase.Booting None = phase.Booting
phase_then phase.Idle d = phase.Idle
phase_then phase.Ready d = phase.Ready
phase_then phase.Halted d = phase.Halted

-- the phase, with the open slaves after the call
abbrev pub phase_after : Listing → Call → Reply → List ℕ → Phase → Phase
phase_after net c r open_slaves p = if is_start_by c r then phase.Booting else phase_then p (decides_by net c r open_slaves)

-- the manager's own state, with the phases before and after the call
abbrev pub own_after : Listing → Call → Reply → Orders → Phase → Phase → NmtState → NmtState
own_after net c r o before after own = unwrap_or (option_or (own_by net c r o) (becomes_operational net before after)) own

abbrev pub begun_after : Reply → ℕ → ℕ
begun_after r n = if is_some (begun_number r) then n + 1 else n

-- whether slave i is held
abbrev pub held_after : Call → Reply → ℕ → Bool → Bool
held_after c r i held = unwrap_or (holds_by c r i) held

abbrev pub after : Listing → Machine → Call → Reply → Orders → Machine
after net m c r o =
    let slaves = slaves_after net c r o m.slaves in
    let phase = phase_after net c r (open_in net slaves) m.phase in
    record {
      phase = phase;
      own = own_after net c r o m.phase phase m.own;
      begun = begun_after r m.begun;
      slaves = slaves;
      held = λ i. held_after c r i (m.held i);
    }

-- the call, answered, and the next state
abbrev pub step : Listing → Machine → Call → Machine
step net m c = after net m c (answer_in net m c).0 (answer_in net m c).1

-- the calls of a history, one after another
abbrev pub run : Listing → List Entry → Machine
run net [] = idle
run net (e ∷ past) = step net (run net past) e.call

-- ---- what a history says, as a machine

abbrev pub said : Listing → List Entry → Machine
said net past = record {
  phase = phase_of net past;
  own = own_of net past;
  begun = begun_in past;
  slaves = of_nodes (slave_of net past);
  held = is_held past;
}

-- no number above 127 is listed
abbrev pub ListsNodes : Listing → Type 0
ListsNodes net = (i : ℕ) → 128 ≤ i → is_listed net i ≡ false

-- the machine, run over the history, keeps what the definitions look back for, and answers as the tables answer
pub record ShowsItsHistory (net : Listing) (past : List Entry) : Type 0 where
  pub phase : (run net past).phase ≡ phase_of net past
  pub own : (run net past).own ≡ own_of net past
  pub begun : (run net past).begun ≡ begun_in past
  pub slaves : (i : ℕ) → i < 128 → (run net past).slaves i ≡ slave_of net past i
  pub held : (i : ℕ) → (run net past).held i ≡ is_held past i
  pub open_slaves : open_in net (run net past).slaves ≡ open_of net past
  pub answers : (c : Call) → answer_in net (run net past) c ≡ answer_of net past c
