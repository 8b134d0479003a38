-- The answer to a call, as a table over what the history says (own, but where a standard is named).
use Rattle.std.specs.Prelude.{ℕ, Bool, true, false, ◌==◌, ◌&&◌, ◌||◌, not, if◌then◌else◌, ◌+◌}
use Rattle.std.specs.Prelude.{nat_le, nat_lt, List, [], ◌∷◌, filter, Option, Some, None, unwrap_or}
use Rattle.std.specs.Option.{is_some, is_none}
use Rattle.cm_nmt.specs.Codes.{command_of_request, signal_of, state_code}
use Rattle.cm_nmt.specs.declared.signal.Signal.{Signal}
use Rattle.cm_nmt.specs.declared.signal.Signal.TheVariants as signal
use Rattle.cm_nmt.specs.declared.command.Command.{Command}
use Rattle.cm_nmt.specs.declared.state.NmtState.{NmtState}
use Rattle.cm_nmt.specs.declared.state.NmtState.TheVariants as state
use Rattle.cm_nmt.specs.declared.command.Command.TheVariants as command
use Rattle.cm_nmt.specs.Status.{is_good, is_ok}
use Rattle.cm_nmt.specs.Verdict.{judged}
use Rattle.cm_nmt.specs.declared.status.Status.{Status}
use Rattle.cm_nmt.specs.declared.status.Status.TheVariants as status
use Rattle.cm_nmt.specs.Listing.{Listing, is_listed, is_to_be_booted, is_mandatory, is_master}
use Rattle.cm_nmt.specs.Listing.{starts_all_at_once, leaves_operational_to_application}
use Rattle.cm_nmt.specs.Listing.{starts_no_slave, resets_all_on_error, stops_all_on_error}
use Rattle.cm_history.specs.Orders.{to_every, to_node}
use Rattle.cm_history.specs.Phases.{is_idle, is_booting, is_ready, is_halted}
use Rattle.cm_history.specs.History.{is_fatal, is_empty, is_reset_value, phase_of, own_of, begun_in}
use Rattle.cm_history.specs.History.{open_of, state_of, is_booted, is_held, session_of}
use Rattle.cm_history.specs.declared.call.Call.{Call}
use Rattle.cm_history.specs.declared.call.Call.TheVariants as call
use Rattle.cm_history.specs.declared.call.Reply.{Reply}
use Rattle.cm_history.specs.declared.call.Reply.TheVariants as reply
use Rattle.cm_history.specs.declared.call.Orders.{Orders}
use Rattle.cm_history.specs.declared.call.Orders.TheVariants as orders
use Rattle.cm_history.specs.declared.call.Entry.{Entry}
use Rattle.cm_history.specs.declared.phase.Phase.{Phase}
use Rattle.cm_history.specs.declared.refusal.Refusal.{Refusal}
use Rattle.cm_history.specs.declared.refusal.Refusal.TheVariants as refusal
use Rattle.cm_history.specs.declared.slave.Slave.{Slave}

-- ---- what the table looks up

-- what the history says of slave i
abbrev pub slave_of : Listing → List Entry → ℕ → Slave
slave_of net past i = record { state = state_of net past i; booted = is_booted past i; session = session_of past i }

-- state 0, not booted, no session
abbrev pub blank_slave : Slave
blank_slave = record { state = 0; booted = false; session = None }

-- what a history says of the manager, of its open slaves, and of the node that a call names
pub record Lookup : Type 0 where
  pub phase : Phase
  pub own : NmtState
  pub begun : ℕ
  pub open_slaves : List ℕ
  pub slave : Slave
  pub held : Bool

-- the node that a call names, 0 where it names none
abbrev pub node_named : Call → ℕ
node_named call.StartNetwork = 0
node_named (call.Begin i) = i
node_named (call.Report i n a) = i
node_named (call.Signal i b) = i
node_named (call.Lost i) = i
node_named (call.Request t v) = t
node_named (call.Read t) = t
node_named (call.Elapsed ms) = 0
node_named (call.Hold i) = i
node_named (call.Release i) = i

-- the node of a sub-index of object 1F82h, request NMT; none at 128, which stands for all nodes (CiA 302-2)
abbrev pub node_at : ℕ → Option ℕ
node_at t = if nat_le 1 t && nat_le t 127 then Some t else None

-- the node that a call names; none where it is for all, as a start of the network and a request to all, or names none, as one
-- that tells the time
abbrev pub named_by : Call → Option ℕ
named_by c = node_at (node_named c)

abbrev pub seen_of : Listing → List Entry → ℕ → Lookup
seen_of net past i = record {
  phase = phase_of net past;
  own = own_of net past;
  begun = begun_in past;
  open_slaves = open_of net past;
  slave = if is_listed net i then slave_of net past i else blank_slave;
  held = is_held past i;
}

-- ---- refusals: each call's numbers with their conditions, in the order in which they are tested

-- the session has this number
abbrev pub has_session : Option ℕ → ℕ → Bool
has_session None n = false
has_session (Some m) n = m == n

-- the number's meaning:
--    1 the device isn't the NMT master
--    2 already started
--    3 not started
--    4 not listed; for a request, nor the own node-ID nor all
--    5 a session is there
--    6 already booted
--    7 the slave has no session of that number
--    8 the answers are those of no boot of this slave
--    9 the byte, without its toggle bit, is that of no signal
--   10 a request's target isn't 1 to 128, a read's isn't 1 to 127
--   11 the value is none of 4, 5, 6, 7, 127
--   12 a start of all or of the manager itself, while a mandatory slave is open
--   13 a reset of the manager itself
--   14 the slave is held
--   15 it isn't held
abbrev pub refusals : Listing → Lookup → Call → List (ℕ × Bool)
refusals net s call.StartNetwork = (1, not (is_master net)) ∷ (2, is_booting s.phase || is_ready s.phase) ∷ []
refusals net s (call.Begin i) =
    (3, is_idle s.phase || is_halted s.phase)
    ∷ (4, not (is_listed net i))
    ∷ (14, s.held)
    ∷ (5, is_some s.slave.session)
    ∷ (6, s.slave.booted)
    ∷ []
refusals net s (call.Report i n a) =
    (3, is_idle s.phase)
    ∷ (4, not (is_listed net i))
    ∷ (7, not (has_session s.slave.session n))
    ∷ (8, is_none (judged (net.terms i) a))
    ∷ []
refusals net s (call.Signal i b) =
    (3, is_idle s.phase)
    ∷ (4, not (is_listed net i))
    ∷ (9, is_none (signal_of b))
    ∷ []
refusals net s (call.Lost i) = (3, is_idle s.phase) ∷ (4, not (is_listed net i)) ∷ []
refusals net s (call.Request t v) =
    (3, is_idle s.phase)
    ∷ (10, t == 0 || nat_lt 128 t)
    ∷ (11, is_none (command_of_request v))
    ∷ (4, not (is_listed net t || (t == net.own || t == 128)))
    ∷ (12, v == 5 && ((t == 128 || t == net.own) && not (is_empty s.open_slaves)))
    ∷ (13, t == net.own && is_reset_value v)
    ∷ []
refusals net s (call.Read t) = (3, is_idle s.phase) ∷ (10, t == 0 || nat_lt 127 t) ∷ []
refusals net s (call.Elapsed ms) = (3, is_idle s.phase) ∷ []
refusals net s (call.Hold i) = (3, is_idle s.phase) ∷ (4, not (is_listed net i)) ∷ (14, s.held) ∷ []
refusals net s (call.Release i) = (3, is_idle s.phase) ∷ (4, not (is_listed net i)) ∷ (15, not s.held) ∷ []

-- the number of each refusal, in a reply
abbrev pub refusal_number : Refusal → ℕ
refusal_number refusal.NotMaster = 1
refusal_number refusal.AlreadyStarted = 2
refusal_number refusal.NotStarted = 3
refusal_number refusal.NotListed = 4
refusal_number refusal.Busy = 5
refusal_number refusal.AlreadyBooted = 6
refusal_number refusal.Stale = 7
refusal_number refusal.BadReport = 8
refusal_number refusal.BadState = 9
refusal_number refusal.BadTarget = 10
refusal_number refusal.BadValue = 11
refusal_number refusal.MandatoryOpen = 12
refusal_number refusal.OwnReset = 13
refusal_number refusal.Held = 14
refusal_number refusal.NotHeld = 15

-- the SDO abort codes of refused requests: invalid value for parameter, not possible in the present device state
-- (the codes: CiA 301; which refusal has which: own)
abbrev pub abort_of : ℕ → Option ℕ
abort_of r =
    if r == 11 then Some 0x06090030
    else if r == 12 then Some 0x08000022
    else None

-- the first number whose condition holds
abbrev pub first_refusal : List (ℕ × Bool) → Option ℕ
first_refusal [] = None
first_refusal (p ∷ ps) = if p.1 then Some p.0 else first_refusal ps

-- ---- the orders of a report

abbrev pub is_operational : NmtState → Bool
is_operational state.Operational = true
is_operational _ = false

-- the open slaves once a boot of i came to this status
abbrev pub open_less : List ℕ → ℕ → Status → List ℕ
open_less open_slaves i s = if is_good s then filter (λ j. not (i == j)) open_slaves else open_slaves

-- all slaves are started at once, as the last open one is booted and the manager may start slaves and itself
abbrev pub starts_every : Listing → Phase → List ℕ → Bool
starts_every net p open_slaves =
    is_booting p && (is_empty open_slaves
    && (starts_all_at_once net && (not (leaves_operational_to_application net) && not (starts_no_slave net))))

-- slave i is started alone: its boot is Ok and bit 2 set, the manager may start slaves, and it starts them one by one
-- or is operational already
abbrev pub starts_one : Listing → NmtState → ℕ → Status → Bool
starts_one net own i s =
    is_ok s && (is_to_be_booted net i && (not (starts_no_slave net) && (not (starts_all_at_once net) || is_operational own)))

-- the orders of a report of i, with the slaves that are left open
abbrev pub report_orders : Listing → Phase → NmtState → List ℕ → ℕ → Status → Orders
report_orders net p own left i s =
    if is_halted p then orders.None
    else (if is_booting p && is_fatal net i s then orders.None
    else (if starts_every net p left then to_every command.Start
    else (if starts_one net own i s then to_node command.Start i
    else orders.None)))

-- ---- the orders of the other calls

-- the error handler's orders, for a booted slave i that is lost: of a mandatory slave, stop all by 1F80h bit 6, else
-- reset node of all by bit 4; else reset node of the slave alone (CiA 302-2, 1F80h)
abbrev pub lost_orders : Listing → ℕ → Orders
lost_orders net i =
    if is_mandatory net i && stops_all_on_error net then to_every command.Stop
    else if is_mandatory net i && resets_all_on_error net then to_every command.ResetNode
    else to_node command.ResetNode i

-- the orders of a request: none to the manager itself, else the command to all, by 128, or to the node
abbrev pub request_orders : Bool → Bool → ℕ → Option Command → Orders
request_orders to_own to_all t None = orders.None
request_orders to_own to_all t (Some c) =
    if to_own then orders.None
    else if to_all then to_every c
    else to_node c t

-- what a read of node t shows: of the manager itself its own state, of any other node the slave's, 0 where it isn't
-- listed
abbrev pub shown_of : Listing → Lookup → ℕ → ℕ
shown_of net s t = if t == net.own then state_code s.own else s.slave.state

-- the time for the mandatory slaves is up: they are being booted, one is open, and more ms went by than 1F89h allows,
-- where 0 allows any
abbrev pub is_late : Listing → Phase → List ℕ → ℕ → Bool
is_late net p open_slaves ms = is_booting p && (not (is_empty open_slaves) && (not (net.boot_time == 0) && nat_lt net.boot_time ms))

-- the reply to an error control message
abbrev pub signal_reply : Option Signal → Reply
signal_reply (Some signal.BootUp) = reply.BootAgain
signal_reply _ = reply.Noted

-- ---- the answer

-- the reply and the orders of a call that isn't refused
abbrev pub granted_answer : Listing → Lookup → Call → Reply × Orders
granted_answer net s call.StartNetwork = (reply.Started, orders.ResetUnkept)
granted_answer net s (call.Begin i) = (reply.Begun (s.begun + 1), orders.None)
granted_answer net s (call.Report i n a) =
    let found = unwrap_or (judged (net.terms i) a) status.A in
    (reply.Reported found, report_orders net s.phase s.own (open_less s.open_slaves i found) i found)
granted_answer net s (call.Signal i b) = (signal_reply (signal_of b), orders.None)
granted_answer net s (call.Lost i) = if s.slave.booted then (reply.Handled, lost_orders net i) else (reply.Noted, orders.None)
granted_answer net s (call.Request t v) = (reply.Done, request_orders (t == net.own) (t == 128) t (command_of_request v))
granted_answer net s (call.Read t) = (reply.State (shown_of net s t), orders.None)
granted_answer net s (call.Elapsed ms) =
    if is_late net s.phase s.open_slaves ms then (reply.TimeUp, orders.None)
    else (reply.InTime, if starts_every net s.phase s.open_slaves then to_every command.Start else orders.None)
granted_answer net s (call.Hold i) = (reply.Done, to_node command.Stop i)
granted_answer net s (call.Release i) = (reply.Done, orders.None)

-- a refused call has no orders
abbrev pub refused_or : Option ℕ → Reply × Orders → Reply × Orders
refused_or None granted = granted
refused_or (Some r) granted = (reply.Refused r, orders.None)

-- the answer from what was looked up
abbrev pub answer_from : Listing → Lookup → Call → Reply × Orders
answer_from net s c = refused_or (first_refusal (refusals net s c)) (granted_answer net s c)

-- the answer to the call after the history
abbrev pub answer_of : Listing → List Entry → Call → Reply × Orders
answer_of net past c = answer_from net (seen_of net past (node_named c)) c
