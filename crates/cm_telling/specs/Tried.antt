-- What came of the boots of each slave, for the words of a live run (own).
use Rattle.std.specs.Prelude.{◌≡◌, ◌+◌, ◌≤◌, ◌<◌, ◌==◌, ◌&&◌, if◌then◌else◌, [], ◌∷◌, ℕ, Bool, true, false}
use Rattle.std.specs.Prelude.{min, Option, Some, None, is_some, slice_index_or}
use Rattle.cm_history.specs.Answering.{node_at}
use Rattle.cm_history.specs.History.{begins_by, last_status}
use Rattle.cm_history.specs.declared.call.Call.{Call}
use Rattle.cm_history.specs.declared.call.Call.TheVariants as call
use Rattle.cm_history.specs.declared.call.Entry.{Entry}
use Rattle.cm_history.specs.declared.call.Reply.{Reply}
use Rattle.cm_history.specs.declared.call.Reply.TheVariants as reply
use Rattle.cm_nmt.specs.Codes.{signal_of}
use Rattle.cm_nmt.specs.declared.signal.Signal.{Signal}
use Rattle.cm_nmt.specs.declared.signal.Signal.TheVariants as signal
use Rattle.cm_nmt.specs.declared.state.NmtState.TheVariants as state
use Rattle.cm_nmt.specs.declared.status.Status.{Status}
use Rattle.cm_watched.specs.Pasts.{Past, entries_in}
use Rattle.cm_watched.specs.Slaves.{booted_since}
use Rattle.cm_watched.specs.declared.happening.Happening.TheVariants as happening
use Rattle.cm_watched.specs.declared.happening.Moment.{Moment}
use Rattle.cm_watched.specs.declared.happening.Moment.TheVariants as moment
use Rattle.cm_watched.specs.declared.happening.Step.TheVariants as step
use Rattle.cm_telling.specs.declared.tried.Boots.{Boots}
use Rattle.cm_telling.specs.declared.tried.Tried.{Tried}

-- one attempt more, where a boot of i is begun: at most 255 are counted
abbrev pub attempts_by_call : Call → Reply → ℕ → ℕ → ℕ
attempts_by_call c r i n = if is_some (begins_by c r i) then min (n + 1) 255 else n

-- how many boots of i were begun, with those before the moment: none where i is handed to its worker, else one more where an
-- entry begins one
abbrev pub attempts_by : Moment → ℕ → ℕ → ℕ
attempts_by (moment.Gave (step.Boot j)) i n = if j == i then 0 else n
attempts_by (moment.Happened (happening.Called e)) i n = attempts_by_call e.call e.reply i n
attempts_by _ i n = n

-- how many boots of i were begun since it was last handed to its worker, at most 255
abbrev pub attempts_in : Past → ℕ → ℕ
attempts_in [] i = 0
attempts_in (x ∷ past) i = attempts_by x.1 i (attempts_in past i)

-- the status of the last report on i that was granted
abbrev pub status_in : Past → ℕ → Option Status
status_in past i = last_status (entries_in past) i

-- what came of the boots of i
abbrev pub boots_of : Past → ℕ → Boots
boots_of past i = record { attempts = attempts_in past i; status = status_in past i }

-- nothing came of any
abbrev pub no_boots : Boots
no_boots = record { attempts = 0; status = None }

-- what is kept of i
abbrev pub boots_at : Tried → ℕ → Boots
boots_at t i = slice_index_or t.boots i no_boots

-- of each node what the past says of its boots is kept
abbrev pub Tries : Tried → Past → Type 0
Tries t past = (i : ℕ) → 1 ≤ i → i < 128 → boots_at t i ≡ boots_of past i

-- only an entry, and a step that hands a slave to its worker, may change what came of the boots
abbrev pub may_change_boots : Moment → Bool
may_change_boots (moment.Gave (step.Boot j)) = true
may_change_boots (moment.Happened (happening.Called e)) = true
may_change_boots _ = false

-- ---- a slave that runs though it isn't booted

-- the reply is Done
abbrev pub is_done : Reply → Bool
is_done reply.Done = true
is_done _ = false

-- an error control message says that its node is operational (CiA 301, heartbeat)
abbrev pub is_operational : Option Signal → Bool
is_operational (Some (signal.State state.Operational)) = true
is_operational _ = false

-- the reply is Noted
abbrev pub is_noted : Reply → Bool
is_noted reply.Noted = true
is_noted _ = false

-- the node that runs by this entry alone: a request of the value 5, start, to it was carried out (CiA 302-2, request NMT), or its error
-- control message, which was noted, says so
abbrev pub running_node : Call → Reply → Option ℕ
running_node (call.Request t v) r = if v == 5 && is_done r then node_at t else None
running_node (call.Signal i b) r = if is_operational (signal_of b) && is_noted r then Some i else None
running_node _ r = None

-- the status of the last report on the node, where it isn't booted; none where it is, or where there is no node
abbrev pub unbooted_of : Past → Option ℕ → Option (Option Status)
unbooted_of past None = None
unbooted_of past (Some i) = if is_some (booted_since past i) then None else Some (status_in past i)

-- the same, of the node that runs by the entry
abbrev pub unbooted_by : Past → Entry → Option (Option Status)
unbooted_by past e = unbooted_of past (running_node e.call e.reply)
