-- The lines that a live run tells beside those of entries; but for the last part, without their line feeds (own).
use Rattle.std.specs.Prelude.{ℕ, Bool, true, false, ◌==◌, ◌&&◌, not, if◌then◌else◌, List, [], ◌∷◌, ◌++◌, codes, decimal, length}
use Rattle.std.specs.Prelude.{◌-◌, ◌*◌, ◌/◌, Option, Some, None, is_some}
use Rattle.std.specs.List.{filter, flat_map}
use Rattle.cm_nmt.specs.Status.{status_letter}
use Rattle.cm_nmt.specs.declared.status.Status.{Status}
use Rattle.cm_nmt.specs.declared.status.Status.TheVariants as status
use Rattle.cm_history.specs.History.{state_of}
use Rattle.cm_history.specs.Legal.{most_entries}
use Rattle.cm_history.specs.Orders.{is_start_all}
use Rattle.cm_history.specs.declared.call.Call.{Call}
use Rattle.cm_history.specs.declared.call.Call.TheVariants as call
use Rattle.cm_history.specs.declared.call.Entry.{Entry}
use Rattle.cm_history.specs.declared.call.Orders.{Orders}
use Rattle.cm_history.specs.declared.call.Reply.{Reply}
use Rattle.cm_history.specs.declared.call.Reply.TheVariants as reply
use Rattle.cm_netlist.specs.Network.{Network, is_mandatory, listed_ids, listing}
use Rattle.cm_operator.specs.declared.console.BadLine.{BadLine}
use Rattle.cm_operator.specs.declared.console.BadLine.TheVariants as bad
use Rattle.cm_can.specs.declared.format.Format.{Format}
use Rattle.cm_can.specs.declared.format.Format.TheVariants as format
use Rattle.cm_watched.specs.Pasts.{Past}
use Rattle.cm_watched.specs.Slaves.{booted_since}
use Rattle.cm_telling.specs.Tried.{status_in}
use Rattle.cm_watch.specs.declared.telling.Told.{Told}
use Rattle.cm_words.specs.Words.{entry_told, is_told, node_words}
use Rattle.cm_telling.specs.declared.no_boot.NoBoot.{NoBoot}
use Rattle.cm_telling.specs.declared.no_boot.NoBoot.TheVariants as no_boot
use Rattle.cm_words.specs.declared.words.EntryWords.{EntryWords}

-- ---- nodes

-- nodes by their numbers, with commas between them (own)
abbrev pub nodes_words : List ℕ → List ℕ
nodes_words [] = []
nodes_words (i ∷ rest) = decimal i ++ flat_map (λ j. codes ", " ++ decimal j) rest

-- the word before nodes, so many (own)
abbrev pub nodes_word : ℕ → List ℕ
nodes_word count = if count == 1 then codes "node" else codes "nodes"

-- that nodes, so many, go on, behind them (own)
abbrev pub run_on_words : ℕ → List ℕ
run_on_words count = if count == 1 then codes "runs on" else codes "run on"

-- ---- one slave

-- behind the number of a mandatory slave (own)
abbrev pub mandatory_words : Bool → List ℕ
mandatory_words true = codes " (mandatory)"
mandatory_words false = []

-- the status of the last boot, if there was one, before what follows from it (own)
abbrev pub last_words : Option Status → List ℕ
last_words None = []
last_words (Some status.B) = codes "no answer, "
last_words (Some s) = codes "status " ++ (status_letter s ++ codes ", ")

-- how often it was tried, behind the number (own)
abbrev pub times_words : ℕ → List ℕ
times_words attempts = if attempts == 1 then codes "attempt" else codes "attempts"

-- a slave isn't tried any more until its boot-up message comes (own)
abbrev pub given_up_words : Network → ℕ → ℕ → Option Status → List ℕ
given_up_words net i attempts last =
    codes "node "
    ++ (decimal i
    ++ (mandatory_words (is_mandatory net i)
    ++ (codes ": "
    ++ (last_words last
    ++ (codes "given up after "
    ++ (decimal attempts
    ++ (codes " " ++ (times_words attempts ++ codes "; waiting for its boot-up message"))))))))

-- a slave is back, while all nodes are stopped (own)
abbrev pub back_words : ℕ → List ℕ
back_words i =
    codes "node " ++ (decimal i ++ (codes " is back; the network is stopped: boot " ++ (decimal i ++ codes ", then start")))

-- a slave is booted that isn't watched (own)
abbrev pub unwatched_words : ℕ → List ℕ
unwatched_words i = codes "node " ++ (decimal i ++ codes " isn't watched: it has no heartbeat time and no guard time")

-- changes of state, so many, behind their number (own)
abbrev pub change_words : ℕ → List ℕ
change_words count = if count == 1 then codes "change of state" else codes "changes of state"

-- so many changes of state of a node were left out (own)
abbrev pub left_out_words : ℕ → ℕ → List ℕ
left_out_words i count = node_words i (decimal count ++ (codes " " ++ (change_words count ++ codes ", left out")))

-- why a slave isn't booted though its operator asks for it (own)
abbrev pub no_boot_words : ℕ → NoBoot → List ℕ
no_boot_words i no_boot.NotListed = codes "boot " ++ (decimal i ++ codes ": the node isn't listed")
no_boot_words i no_boot.Halted = codes "boot " ++ (decimal i ++ codes ": the network is halted; type start")
no_boot_words i no_boot.Held = codes "boot " ++ (decimal i ++ (codes ": the slave is held; release " ++ decimal i))
no_boot_words i no_boot.Booted = codes "boot " ++ (decimal i ++ codes ": the slave is booted already")

-- what is wrong with a line of the operator; of one without words nothing (own)
abbrev pub bad_words : BadLine → List ℕ
bad_words bad.Empty = []
bad_words bad.NoSuchWord = codes "bad line: no such word; 'help' has them"
bad_words (bad.Wants usage) = codes "bad line: it is " ++ usage.now

-- ---- the network

-- behind a stop of all nodes: the slave whose loss it was (own)
abbrev pub lost_by : Call → List ℕ
lost_by (call.Lost i) = codes ": node " ++ (decimal i ++ codes " was lost")
lost_by c = []

-- all nodes were stopped with this entry, and what leads back: a start of all is refused while a mandatory slave isn't booted (own)
abbrev pub stopped_words : Entry → List ℕ
stopped_words e =
    codes "all nodes are stopped" ++ (lost_by e.call ++ codes "; boot each mandatory slave that isn't booted, then start")

-- behind a halt: the slave whose boot came to this status (own)
abbrev pub halted_by : Call → Reply → List ℕ
halted_by (call.Report i n a) (reply.Reported s) =
    codes ": node " ++ (decimal i ++ (codes " has status " ++ status_letter s))
halted_by c r = []

-- behind a halt: the nodes that run on, if there are any, or that they aren't known (own)
abbrev pub running_words : Option (List ℕ) → List ℕ
running_words None = codes "; which nodes run on isn't known"
running_words (Some []) = []
running_words (Some (i ∷ rest)) =
    codes "; "
    ++ (nodes_word (length (i ∷ rest)) ++ (codes " " ++ (nodes_words (i ∷ rest) ++ (codes " " ++ run_on_words (length (i ∷ rest))))))

-- the network was halted with this entry, while these nodes are operational, if they are known (own)
abbrev pub halted_words : Entry → Option (List ℕ) → List ℕ
halted_words e running =
    codes "network halted" ++ (halted_by e.call e.reply ++ (running_words running ++ codes "; once that is mended, type start"))

-- the run ends, while these nodes are operational, if they are known (own)
abbrev pub ends_words : Option (List ℕ) → List ℕ
ends_words running = codes "the run ends" ++ running_words running

-- the time for the boot of the mandatory slaves is over, and these aren't booted (own)
abbrev pub time_over_words : List ℕ → List ℕ
time_over_words slaves =
    codes "boot time over: mandatory and not booted: " ++ (nodes_word (length slaves) ++ (codes " " ++ nodes_words slaves))

-- nothing that was read is a frame in lines of this format (own)
abbrev pub no_frames_words : Format → List ℕ
no_frames_words format.CanUtils = codes "nothing that was read is a frame: candump needs -L"
no_frames_words format.Adapter = codes "nothing that was read is a frame of a serial adapter"

-- so many entries are left (own)
abbrev pub nearly_full_words : ℕ → List ℕ
nearly_full_words left = codes "the journal is nearly full: " ++ (decimal left ++ codes " entries are left")

-- behind nodes, so many, that they aren't booted (own)
abbrev pub too_behind : ℕ → List ℕ
too_behind count = if count == 1 then codes "isn't booted, and was started too" else codes "aren't booted, and were started too"

-- these nodes were started with all nodes, though they aren't booted (own)
abbrev pub too_words : List ℕ → List ℕ
too_words nodes = nodes_word (length nodes) ++ (codes " " ++ (nodes_words nodes ++ (codes " " ++ too_behind (length nodes))))

-- ---- which nodes are told

-- a slave is operational behind these entries, as object 1F82h reads its state (CiA 302-2)
abbrev pub is_running_in : Network → List Entry → ℕ → Bool
is_running_in net past i = state_of (listing net) past i == 5

-- the listed slaves that are (own)
abbrev pub running_in : Network → List Entry → List ℕ
running_in net past = filter (is_running_in net past) (listed_ids net)

-- a slave is mandatory, and isn't booted by this past of a watch (own)
abbrev pub is_open_in : Network → Past → ℕ → Bool
is_open_in net past i = is_mandatory net i && not (is_some (booted_since past i))

-- the listed slaves that are (own)
abbrev pub open_in : Network → Past → List ℕ
open_in net past = filter (is_open_in net past) (listed_ids net)

-- a device may be where the last boot of a slave came to this status, if there was one: any but B, which it comes to without an answer
-- (CiA 302-2, boot NMT slave)
abbrev pub may_be_there : Option Status → Bool
may_be_there (Some status.B) = false
may_be_there _ = true

-- a slave isn't booted by this past of a watch, though a device may be there (own)
abbrev pub is_unbooted_in : Past → ℕ → Bool
is_unbooted_in past i = not (is_some (booted_since past i)) && may_be_there (status_in past i)

-- the listed slaves that these orders start with all nodes, once they were handed to the wire, though they aren't booted (own)
abbrev pub started_too : Bool → Network → Past → Orders → List ℕ
started_too handed net past orders =
    if handed && is_start_all orders then filter (is_unbooted_in past) (listed_ids net) else []

-- ---- the lines behind an entry, with their line feeds

-- the text and a line feed, or nothing (own)
abbrev pub line_if : Bool → List ℕ → List ℕ
line_if told text = if told then text ++ 10 ∷ [] else []

-- the line of a slave, if there is one (own)
abbrev pub line_of : (ℕ → List ℕ) → Option ℕ → List ℕ
line_of words (Some i) = words i ++ 10 ∷ []
line_of words None = []

-- the line of the nodes that were started with all nodes though they aren't booted, if there are any (own)
abbrev pub too_line : List ℕ → List ℕ
too_line nodes = line_if (not (length nodes == 0)) (too_words nodes)

-- the place of the entry behind which it is told that the journal is nearly full: nine tenths of the most that there may be (own)
abbrev pub nearly_full : ℕ
nearly_full = most_entries / 10 * 9

-- of an entry: its words, if it is told, and then how many entries are left, if it is the one behind which that is told (own)
abbrev pub entry_lines : EntryWords → List ℕ
entry_lines w =
    line_if (is_told w.entry.now.call) (entry_told w.network.now w.entry.now w.is_handed w.is_halted w.place w.unbooted)
    ++ line_if (w.place == nearly_full) (nearly_full_words (most_entries - nearly_full))

-- behind an entry, in this order: these nodes were started too though they aren't booted; all nodes are stopped; the network is halted,
-- while these nodes are operational, if they are known; it is ready; a slave is back; a slave isn't watched (own)
abbrev pub told_lines : Told → Entry → List ℕ → Option (List ℕ) → List ℕ
told_lines told e too running =
    too_line too
    ++ (line_if told.is_stopped (stopped_words e)
    ++ (line_if told.is_halted (halted_words e running)
    ++ (line_if told.is_ready (codes "network ready") ++ (line_of back_words told.back ++ line_of unwatched_words told.unwatched))))
