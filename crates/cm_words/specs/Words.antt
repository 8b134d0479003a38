-- What a live run tells in words (own).
use Rattle.std.specs.Prelude.{ℕ, Bool, true, false, ◌==◌, if◌then◌else◌, List, [], ◌∷◌, ◌++◌, codes, decimal}
use Rattle.std.specs.Prelude.{Option, Some, None}
use Rattle.std.specs.List.{find}
use Rattle.cm_text.specs.Hex.{hex_four, hex_eight}
use Rattle.cm_nmt.specs.Codes.{signal_of}
use Rattle.cm_nmt.specs.Status.{status_letter}
use Rattle.cm_nmt.specs.declared.answers.Answers.{Answers}
use Rattle.cm_nmt.specs.declared.got.Got.{Got}
use Rattle.cm_nmt.specs.declared.got.Got.TheVariants as got
use Rattle.cm_nmt.specs.declared.signal.Signal.{Signal}
use Rattle.cm_nmt.specs.declared.signal.Signal.TheVariants as signal
use Rattle.cm_nmt.specs.declared.state.NmtState.TheVariants as state
use Rattle.cm_nmt.specs.declared.status.Status.{Status}
use Rattle.cm_nmt.specs.declared.status.Status.TheVariants as status
use Rattle.cm_history.specs.Answering.{refusal_number}
use Rattle.cm_history.specs.Orders.{is_reset_all, is_stop_all}
use Rattle.cm_history.specs.declared.call.Call.{Call}
use Rattle.cm_history.specs.declared.call.Call.TheVariants as call
use Rattle.cm_history.specs.declared.call.Entry.{Entry}
use Rattle.cm_history.specs.declared.call.Orders.{Orders}
use Rattle.cm_history.specs.declared.call.Orders.TheVariants as orders
use Rattle.cm_history.specs.declared.call.Reply.{Reply}
use Rattle.cm_history.specs.declared.call.Reply.TheVariants as reply
use Rattle.cm_history.specs.declared.refusal.Refusal.{Refusal}
use Rattle.cm_history.specs.declared.refusal.Refusal.TheVariants as refusal
use Rattle.cm_netlist.specs.Network.{Network, entry}
use Rattle.cm_netlist.specs.declared.entry.SlaveEntry.{SlaveEntry}
use Rattle.cm_telling.specs.BootFaults.{boot_fault, object_name}
use Rattle.cm_words.specs.AbortCodes.{abort_words}
use Rattle.cm_telling.specs.Spellings.{spelled_call, spelled_reply}
use Rattle.cm_telling.specs.Starts.{is_one, starts_handed}
use Rattle.cm_telling.specs.declared.boot_fault.BootFault.{BootFault}
use Rattle.cm_telling.specs.declared.boot_fault.BootFault.TheVariants as fault
use Rattle.cm_telling.specs.declared.starts.Starts.{Starts}
use Rattle.cm_telling.specs.declared.starts.Starts.TheVariants as starts

-- ---- the boot of a slave

-- what was answered to a question whose answer isn't the expected one (own)
abbrev pub gave_words : Got → List ℕ
gave_words (got.Value value) = hex_eight value
gave_words (got.Abort code) = codes "abort " ++ (hex_eight code ++ abort_words code)
gave_words got.Silent = codes "no answer"
gave_words got.NotAsked = codes "no answer"

-- an object whose value isn't the expected one, what it gave, and the expected value; or the write that failed, if the slave has one at
-- that place, and what it got (own)
abbrev pub fault_words : BootFault → List ℕ
fault_words (fault.Differs object given expected) =
    object_name object ++ (codes " " ++ (gave_words given ++ (codes ", expected " ++ hex_eight expected)))
fault_words (fault.Write (Some w) given) =
    codes "write of " ++ (hex_four w.index ++ (codes " sub " ++ (decimal w.sub ++ (codes ": " ++ gave_words given))))
fault_words (fault.Write None given) = codes "a write: " ++ gave_words given

-- why a boot ended with this status, and by this value, if by one (own)
abbrev pub cause_words : Option BootFault → Status → List ℕ
cause_words (Some f) s = fault_words f
cause_words None status.B = codes "no device type"
cause_words None status.E = codes "no heartbeat"
cause_words None status.F = codes "no answer to the guard request"
cause_words None status.G = codes "its software version isn't verified"
cause_words None status.K = codes "no heartbeat"
cause_words None status.L = codes "found operational"
cause_words None _ = codes "as expected"

-- how a slave was started, behind its status Ok (own)
abbrev pub start_words : Starts → List ℕ
start_words starts.None = []
start_words starts.Alone = codes ", started"
start_words starts.WithAll = codes ", all started"

-- the cause of a status, in parentheses; nothing of a node that isn't listed (own)
abbrev pub cause_behind : Option SlaveEntry → Status → Answers → List ℕ
cause_behind (Some e) s a = codes " (" ++ (cause_words (boot_fault s a e) s ++ codes ")")
cause_behind None s a = []

-- what stands behind a status: how the slave was started behind Ok, else the cause (own)
abbrev pub behind_status : Network → ℕ → Status → Answers → Starts → List ℕ
behind_status net i status.Ok a how = start_words how
behind_status net i s a how = cause_behind (entry net i) s a

-- what the report of a boot came to (own)
abbrev pub judged_words : Network → ℕ → Status → Answers → Starts → List ℕ
judged_words net i s a how =
    codes "node " ++ (decimal i ++ (codes ": status " ++ (status_letter s ++ behind_status net i s a how)))

-- ---- signals and refusals

-- a signal (own)
abbrev pub signal_text : Option Signal → List ℕ
signal_text (Some signal.BootUp) = codes "boot-up"
signal_text (Some (signal.State state.Stopped)) = codes "state stopped"
signal_text (Some (signal.State state.Operational)) = codes "state operational"
signal_text (Some (signal.State state.PreOperational)) = codes "state pre-operational"
signal_text None = codes "no state of NMT"

-- what an error control message tells of a node, by its byte (own)
abbrev pub signal_words_of : ℕ → List ℕ
signal_words_of byte = signal_text (signal_of byte)

-- a refusal (own)
abbrev pub refusal_text : Refusal → List ℕ
refusal_text refusal.NotMaster = codes "this device isn't the NMT master"
refusal_text refusal.AlreadyStarted = codes "the network was started already"
refusal_text refusal.NotStarted = codes "the network isn't started"
refusal_text refusal.NotListed = codes "the node isn't listed"
refusal_text refusal.Busy = codes "the slave is being booted"
refusal_text refusal.AlreadyBooted = codes "the slave is booted already"
refusal_text refusal.Stale = codes "the slave has no boot of that number"
refusal_text refusal.BadReport = codes "no boot of this slave gives these answers"
refusal_text refusal.BadState = codes "no such NMT state"
refusal_text refusal.BadTarget = codes "no such target"
refusal_text refusal.BadValue = codes "no such value; 4 stop, 5 start, 6 and 7 reset, 127 pre-operational"
refusal_text refusal.MandatoryOpen = codes "a mandatory slave isn't booted"
refusal_text refusal.OwnReset = codes "the manager can't be reset"
refusal_text refusal.Held = codes "the slave is held"
refusal_text refusal.NotHeld = codes "the slave isn't held"

-- every refusal (own)
abbrev pub all_refusals : List Refusal
all_refusals =
    refusal.NotMaster
    ∷ refusal.AlreadyStarted
    ∷ refusal.NotStarted
    ∷ refusal.NotListed
    ∷ refusal.Busy
    ∷ refusal.AlreadyBooted
    ∷ refusal.Stale
    ∷ refusal.BadReport
    ∷ refusal.BadState
    ∷ refusal.BadTarget
    ∷ refusal.BadValue
    ∷ refusal.MandatoryOpen
    ∷ refusal.OwnReset
    ∷ refusal.Held
    ∷ refusal.NotHeld
    ∷ []

-- the refusal of this number (own)
abbrev pub refusal_of : ℕ → Option Refusal
refusal_of number = find (λ r. refusal_number r == number) all_refusals

-- the refusal of this number, where there is one, and where the network was halted then (own)
abbrev pub refused_text : Bool → Option Refusal → List ℕ
refused_text true (Some refusal.NotStarted) = codes "the network is halted"
refused_text halted (Some r) = refusal_text r
refused_text halted None = codes "refused"

-- a refusal by its number; that the network isn't started is otherwise said of one that was halted (own)
abbrev pub refusal_words_of : Bool → ℕ → List ℕ
refusal_words_of halted number = refused_text halted (refusal_of number)

-- what stands behind a reply as a journal spells it: of a refusal its words (own)
abbrev pub behind_reply : Bool → Reply → List ℕ
behind_reply halted (reply.Refused number) = codes ": " ++ refusal_words_of halted number
behind_reply halted r = []

-- a reply to a call, as a journal spells it, and a refusal in words too (own)
abbrev pub replied_words : Bool → Reply → List ℕ
replied_words halted r = spelled_reply r ++ behind_reply halted r

-- a line of a node (own)
abbrev pub node_words : ℕ → List ℕ → List ℕ
node_words i text = codes "node " ++ (decimal i ++ (codes ": " ++ text))

-- ---- entries

-- that a slave was started which isn't booted, with the status of its last boot, if there was one (own)
abbrev pub unbooted_words : Option (Option Status) → List ℕ
unbooted_words (Some (Some s)) = codes "; started though it isn't booted (" ++ (status_letter s ++ codes ")")
unbooted_words (Some None) = codes "; started though it isn't booted"
unbooted_words None = []

-- that a slave runs which isn't booted, behind its state, with the status of its last boot, if there was one (own)
abbrev pub runs_words : Option (Option Status) → List ℕ
runs_words (Some (Some s)) = codes "; it runs though it isn't booted (" ++ (status_letter s ++ codes ")")
runs_words (Some None) = codes "; it runs though it isn't booted"
runs_words None = []

-- a call and its reply behind their place in the history, and that a slave was started which isn't booted (own)
abbrev pub called_words : ℕ → Call → Bool → Reply → Option (Option Status) → List ℕ
called_words place c halted r unbooted =
    decimal place ++ (codes " " ++ (spelled_call c ++ (codes ": " ++ (replied_words halted r ++ unbooted_words unbooted))))

-- a slave is lost, and what was sent for it, once that was handed to the wire: a stop or a reset of all nodes, or a reset of the slave
-- (CiA 302-2, error control event)
abbrev pub lost_words : Bool → Orders → List ℕ
lost_words false o = codes "lost"
lost_words true o =
    if is_stop_all o then codes "lost, all stopped"
    else if is_reset_all o then codes "lost, all reset"
    else if is_one o then codes "lost, reset"
    else codes "lost"

-- a call with this reply and these orders, at this place in the history: the report of a boot by what it came to,
-- what else is of a node by the node, the rest as a journal spells it (own)
abbrev pub told_words : Network → Bool → Bool → ℕ → Option (Option Status) → Orders → Call → Reply → List ℕ
told_words net handed halted place unbooted o (call.Report i n a) (reply.Reported s) =
    judged_words net i s a (starts_handed handed o i)
told_words net handed halted place unbooted o call.StartNetwork reply.Started = codes "network started"
told_words net handed halted place unbooted o (call.Begin i) r = node_words i (replied_words halted r)
told_words net handed halted place unbooted o (call.Signal i b) reply.BootAgain = node_words i (signal_words_of b)
told_words net handed halted place unbooted o (call.Signal i b) reply.Noted =
    node_words i (signal_words_of b ++ runs_words unbooted)
told_words net handed halted place unbooted o (call.Lost i) reply.Handled = node_words i (lost_words handed o)
told_words net handed halted place unbooted o c r = called_words place c halted r unbooted

-- an entry: all frames of its orders were handed to the wire or not; the network was halted before it or not (own)
abbrev pub entry_told : Network → Entry → Bool → Bool → ℕ → Option (Option Status) → List ℕ
entry_told net e handed halted place unbooted = told_words net handed halted place unbooted e.orders e.call e.reply

-- an entry is told: each but the time (own)
abbrev pub is_told : Call → Bool
is_told (call.Elapsed ms) = false
is_told _ = true
