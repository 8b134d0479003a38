-- What a history says of each slave and of the manager (own, but where a standard is named).
-- A history is given with its newest entry first: `e ∷ past` is the history `past`, and then the entry `e`.
-- Each definition looks back for the newest entry that decides.
use Rattle.std.specs.Prelude.{ℕ, Bool, true, false, ◌==◌, ◌&&◌, ◌||◌, not, if◌then◌else◌, ◌+◌, ◌%◌, List, []}
use Rattle.std.specs.Prelude.{◌∷◌, ◌++◌, filter, Option, Some, None, option_map, option_to_list, unwrap_or}
use Rattle.std.specs.Option.{option_or, is_some}
use Rattle.std.specs.List.{list_any}
use Rattle.cm_nmt.specs.Codes.{state_code, state_left, state_of_code}
use Rattle.cm_nmt.specs.declared.state.NmtState.{NmtState}
use Rattle.cm_nmt.specs.declared.state.NmtState.TheVariants as state
use Rattle.cm_nmt.specs.declared.command.Command.{Command}
use Rattle.cm_nmt.specs.Listing.{node_ids, Listing, is_listed, is_mandatory, leaves_operational_to_application}
use Rattle.cm_nmt.specs.Got.{is_answered}
use Rattle.cm_nmt.specs.Status.{is_good, is_missing, is_retried}
use Rattle.cm_nmt.specs.declared.answers.Answers.{Answers}
use Rattle.cm_nmt.specs.declared.heard.Heard.{Heard}
use Rattle.cm_nmt.specs.declared.heard.Heard.TheVariants as heard
use Rattle.cm_nmt.specs.declared.status.Status.{Status}
use Rattle.cm_history.specs.Orders.{to_all, is_start_of, is_reset, is_reset_all, is_stop_all}
use Rattle.cm_history.specs.Phases.{is_booting, is_ready}
use Rattle.cm_history.specs.declared.call.Call.{Call}
use Rattle.cm_history.specs.declared.call.Call.TheVariants as call
use Rattle.cm_history.specs.declared.call.Reply.{Reply}
use Rattle.cm_history.specs.declared.call.Reply.TheVariants as reply
use Rattle.cm_history.specs.declared.call.Orders.{Orders}
use Rattle.cm_history.specs.declared.call.Entry.{Entry}
use Rattle.cm_history.specs.declared.phase.Phase.{Phase}
use Rattle.cm_history.specs.declared.phase.Phase.TheVariants as phase

-- ---- replies and statuses

-- the call was granted
abbrev pub is_granted : Reply → Bool
is_granted (reply.Refused r) = false
is_granted _ = true

-- the reply is BootAgain: the slave sent its boot-up message
abbrev pub is_boot_again : Reply → Bool
is_boot_again reply.BootAgain = true
is_boot_again _ = false

-- the reply is Noted
abbrev pub is_noted : Reply → Bool
is_noted reply.Noted = true
is_noted _ = false

-- the reply is Handled: the loss of a booted slave was handled
abbrev pub is_handled : Reply → Bool
is_handled reply.Handled = true
is_handled _ = false

-- the status in a Reported reply
abbrev pub reported : Reply → Option Status
reported (reply.Reported s) = Some s
reported _ = None

-- the number in a Begun reply
abbrev pub begun_number : Reply → Option ℕ
begun_number (reply.Begun n) = Some n
begun_number _ = None

-- the reply is Reported with the status Ok or L
abbrev pub is_good_report : Reply → Bool
is_good_report (reply.Reported s) = is_good s
is_good_report _ = false

-- what may be there, where the condition holds
abbrev pub only_if : {A : Type 0} → Option A → Bool → Option A
only_if None b = None
only_if (Some x) b = if b then Some x else None

-- ---- each slave: booted, session

-- a value of 1F82h that resets: 6 reset node, 7 reset communication (CiA 302-2, request NMT)
abbrev pub is_reset_value : ℕ → Bool
is_reset_value v = v == 6 || v == 7

-- after the entry slave i isn't booted, and has no session:
--   a granted start of the network
--   a boot-up message of i
--   the loss of i, booted, or one that is handled by a reset of all
--   a granted request that resets i or all
--   a granted hold of i
abbrev pub clears_by : Call → Reply → Orders → ℕ → Bool
clears_by call.StartNetwork r o i = is_granted r
clears_by (call.Begin j) r o i = false
clears_by (call.Report j n a) r o i = false
clears_by (call.Signal j b) r o i = is_boot_again r && j == i
clears_by (call.Lost j) r o i = is_handled r && (j == i || is_reset_all o)
clears_by (call.Request t v) r o i = is_granted r && (is_reset_value v && (t == i || t == 128))
clears_by (call.Read t) r o i = false
clears_by (call.Elapsed ms) r o i = false
clears_by (call.Hold j) r o i = is_granted r && j == i
clears_by (call.Release j) r o i = false

abbrev pub clears : Entry → ℕ → Bool
clears e i = clears_by e.call e.reply e.orders i

-- a report of i with the status Ok or L
abbrev pub boots_by : Call → Reply → ℕ → Bool
boots_by (call.Report j n a) r i = is_good_report r && j == i
boots_by _ r i = false

abbrev pub boots : Entry → ℕ → Bool
boots e i = boots_by e.call e.reply i

-- some entry boots i, and no later one clears it
abbrev pub is_booted : List Entry → ℕ → Bool
is_booted [] i = false
is_booted (e ∷ past) i = boots e i || (not (clears e i) && is_booted past i)

-- the number of a Begin of i that was granted
abbrev pub begins_by : Call → Reply → ℕ → Option ℕ
begins_by (call.Begin j) r i = only_if (begun_number r) (j == i)
begins_by _ r i = None

-- a report of i that was granted
abbrev pub reports_by : Call → Reply → ℕ → Bool
reports_by (call.Report j n a) r i = is_some (reported r) && j == i
reports_by _ r i = false

-- the number of the last Begin of i, where neither a report of i nor an entry that clears i comes later
abbrev pub session_of : List Entry → ℕ → Option ℕ
session_of [] i = None
session_of (e ∷ past) i =
    if reports_by e.call e.reply i || clears e i then None else option_or (begins_by e.call e.reply i) (session_of past i)

-- the mandatory slaves that aren't booted, in rising order
abbrev pub open_of : Listing → List Entry → List ℕ
open_of net past = filter (λ i. is_mandatory net i && not (is_booted past i)) node_ids

-- ---- each slave: its state, as object 1F82h reads it (0 unknown, 1 missing, 4, 5, 127)

-- the code of a state that was heard
abbrev pub heard_code : Heard → Option ℕ
heard_code heard.NotAsked = None
heard_code heard.Silent = None
heard_code (heard.State s) = Some (state_code s)

-- the state that a boot leaves: 1 where the slave was missing, else what was heard last, at the error control
-- beat or else in the state check, else 0 where nothing was asked, else 127
abbrev pub state_reported : Status → Answers → ℕ
state_reported s a =
    if is_missing s then 1 else unwrap_or (heard_code a.beat) (unwrap_or (heard_code a.heard) (if is_answered a.device then 127 else 0))

-- the state that a value of 1F82h asks for: 4, 5, 127 as written, 0 for the two resets
abbrev pub state_requested : ℕ → ℕ
state_requested v = if is_reset_value v then 0 else v

-- the state that an error control message tells: pre-operational at a boot-up message, which a device
-- enters by itself (CiA 301), else the byte without its toggle bit
abbrev pub signalled : Reply → ℕ → Option ℕ
signalled reply.BootAgain byte = Some 127
signalled reply.Noted byte = Some (byte % 128)
signalled _ byte = None

-- the state to which the entry sets slave i by itself:
--   0 at a granted start of the network
--   5 where a report starts i, else the state that its boot leaves
--   the state that its error control message tells
--   1 where it is lost
--   the state that a granted request to it asks for
--   4 at a granted hold of it, which stops it
abbrev pub sets_by : Call → Reply → Orders → ℕ → Option ℕ
sets_by call.StartNetwork r o i = if is_granted r then Some 0 else None
sets_by (call.Begin j) r o i = None
sets_by (call.Report j n a) r o i = only_if (option_map (λ s. if is_start_of o i then 5 else state_reported s a) (reported r)) (j == i)
sets_by (call.Signal j b) r o i = only_if (signalled r b) (j == i)
sets_by (call.Lost j) r o i = if (is_noted r || is_handled r) && j == i then Some 1 else None
sets_by (call.Request t v) r o i = if is_granted r && t == i then Some (state_requested v) else None
sets_by (call.Read t) r o i = None
sets_by (call.Elapsed ms) r o i = None
sets_by (call.Hold j) r o i = if is_granted r && j == i then Some 4 else None
sets_by (call.Release j) r o i = None

-- the last state to which an entry set slave i by itself, 0 where none did, and the commands to all from that
-- entry on, the newest first
abbrev pub last_set : List Entry → ℕ → ℕ × List Command
last_set [] i = (0, [])
last_set (e ∷ past) i =
    unwrap_or
    (option_map (λ v. (v, option_to_list (to_all e.orders))) (sets_by e.call e.reply e.orders i))
    ((last_set past i).0, option_to_list (to_all e.orders) ++ (last_set past i).1)

-- the state v after commands to all: unknown and missing stay; else 0 where one of them resets, else what the last leaves
abbrev pub state_under : ℕ → List Command → ℕ
state_under v [] = v
state_under v (c ∷ cs) = if v == 0 || v == 1 then v else (if list_any is_reset (c ∷ cs) then 0 else state_left c)

-- the state of slave i, 0 where it isn't listed
abbrev pub state_of : Listing → List Entry → ℕ → ℕ
state_of net past i = if is_listed net i then state_under (last_set past i).0 (last_set past i).1 else 0

-- ---- each slave: whether an operator holds it

-- what a granted hold or release of i makes of whether it is held; none where the entry is neither
abbrev pub holds_by : Call → Reply → ℕ → Option Bool
holds_by (call.Hold j) r i = if is_granted r && j == i then Some true else None
holds_by (call.Release j) r i = if is_granted r && j == i then Some false else None
holds_by _ r i = None

-- the last granted hold or release of i is a hold; at first nothing is held
abbrev pub is_held : List Entry → ℕ → Bool
is_held [] i = false
is_held (e ∷ past) i = unwrap_or (holds_by e.call e.reply i) (is_held past i)

-- ---- the manager: phase, own state, sessions begun

abbrev pub is_empty : List ℕ → Bool
is_empty [] = true
is_empty (x ∷ xs) = false

-- the status halts the boot of the network: a mandatory slave, and none of Ok, L, B
abbrev pub is_fatal : Listing → ℕ → Status → Bool
is_fatal net i s = is_mandatory net i && not (is_good s || is_retried s)

-- the phase that the entry decides, with the open slaves after it:
--   Halted, a report whose status halts, or the time was up
--   Ready, any other report, or the time wasn't up, where no slave is open
abbrev pub decides_by : Listing → Call → Reply → List ℕ → Option Phase
decides_by net (call.Report i n a) (reply.Reported s) open_slaves =
    if is_fatal net i s then Some phase.Halted else (if is_empty open_slaves then Some phase.Ready else None)
decides_by net c reply.TimeUp open_slaves = Some phase.Halted
decides_by net c reply.InTime open_slaves = if is_empty open_slaves then Some phase.Ready else None
decides_by net c r open_slaves = None

-- a granted start of the network
abbrev pub is_start_by : Call → Reply → Bool
is_start_by call.StartNetwork r = is_granted r
is_start_by _ r = false

-- what the first entry since the last start of the network that decides gives; none where none does
abbrev pub first_decided : Listing → List Entry → Option Phase
first_decided net [] = None
first_decided net (e ∷ past) =
    if is_start_by e.call e.reply then None
    else option_or (first_decided net past) (decides_by net e.call e.reply (open_of net (e ∷ past)))

-- the network was started
abbrev pub is_started : List Entry → Bool
is_started past = list_any (λ e. is_start_by e.call e.reply) past

-- Idle before any start; else what was decided first since the last one, and Booting where nothing was
abbrev pub phase_of : Listing → List Entry → Phase
phase_of net past = if is_started past then unwrap_or (first_decided net past) phase.Booting else phase.Idle

-- the state that the entry gives the manager itself:
--   pre-operational at a granted start of the network
--   stopped where a loss is handled by a stop of all
--   what is written by a granted request to the own node-ID or to all; a reset gives none
abbrev pub own_by : Listing → Call → Reply → Orders → Option NmtState
own_by net call.StartNetwork r o = if is_granted r then Some state.PreOperational else None
own_by net (call.Lost j) r o = if is_stop_all o then Some state.Stopped else None
own_by net (call.Request t v) r o = if is_granted r && (t == net.own || t == 128) then state_of_code v else None
own_by net _ r o = None

-- as the network becomes ready the manager becomes operational by itself, unless that is left to the application
abbrev pub becomes_operational : Listing → Phase → Phase → Option NmtState
becomes_operational net before after =
    if is_booting before && (is_ready after && not (leaves_operational_to_application net)) then Some state.Operational else None

-- the manager's own state: from the last entry that gives it one, pre-operational where none does
abbrev pub own_of : Listing → List Entry → NmtState
own_of net [] = state.PreOperational
own_of net (e ∷ past) =
    unwrap_or
    (option_or (own_by net e.call e.reply e.orders) (becomes_operational net (phase_of net past) (phase_of net (e ∷ past))))
    (own_of net past)

-- what a read of node t shows: of the manager itself its own state, of any other node the slave's state, 0 where it
-- isn't listed (CiA 302-2, request NMT)
abbrev pub shown : Listing → List Entry → ℕ → ℕ
shown net past t = if t == net.own then state_code (own_of net past) else state_of net past t

-- how many Begun replies there are
abbrev pub begun_in : List Entry → ℕ
begun_in [] = 0
begun_in (e ∷ past) = if is_some (begun_number e.reply) then begun_in past + 1 else begun_in past

-- ---- each slave: the status of its last report

-- the status of a Reported reply to a report of i
abbrev pub status_by : Call → Reply → ℕ → Option Status
status_by (call.Report j n a) r i = only_if (reported r) (j == i)
status_by _ r i = None

-- the status of the last Reported reply of slave i, in a history with its newest entry first
abbrev pub last_status : List Entry → ℕ → Option Status
last_status [] i = None
last_status (e ∷ past) i = option_or (status_by e.call e.reply i) (last_status past i)
