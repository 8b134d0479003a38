-- A history in words (own). A history is given with its newest entry first.
use Rattle.std.specs.Prelude.{ℕ, Bool, true, false, ◌+◌, ◌==◌, if◌then◌else◌, List, [], ◌∷◌, ◌++◌, length, Option, Some, None}
use Rattle.cm_history.specs.Phases.{is_halted}
use Rattle.cm_history.specs.declared.call.Call.{Call}
use Rattle.cm_history.specs.declared.call.Call.TheVariants as call
use Rattle.cm_history.specs.declared.call.Entry.{Entry}
use Rattle.cm_netlist.specs.Network.{Network}
use Rattle.cm_watch.specs.Course.{phase_in}
use Rattle.cm_watched.specs.Pasts.{Past}
use Rattle.cm_watch.specs.Telling.{told_of}
use Rattle.cm_telling.specs.Tried.{unbooted_by}
use Rattle.cm_watched.specs.declared.happening.Happening.TheVariants as happening
use Rattle.cm_watched.specs.declared.happening.Moment.TheVariants as moment
use Rattle.cm_watched.specs.declared.settings.Settings.{Settings}
use Rattle.cm_watch.specs.declared.telling.Told.{Told}
use Rattle.cm_words.specs.ToldLines.{line_if, running_in, started_too, told_lines}
use Rattle.cm_words.specs.Words.{entry_told, is_told}

-- the past of a watch that was told these entries, and nothing else (own)
abbrev pub past_of : List Entry → Past
past_of [] = []
past_of (e ∷ before) = (0, moment.Happened (happening.Called e)) ∷ past_of before

-- the settings of a watch that is asked for no step (own)
abbrev pub no_settings : Settings
no_settings = record { settle_ms = 0; heartbeat_ms = 0 }

-- a call is of this node: it names it (own)
abbrev pub is_of : ℕ → Call → Bool
is_of i (call.Begin j) = j == i
is_of i (call.Report j n a) = j == i
is_of i (call.Signal j b) = j == i
is_of i (call.Lost j) = j == i
is_of i (call.Request t v) = t == i
is_of i (call.Read t) = t == i
is_of i (call.Hold j) = j == i
is_of i (call.Release j) = j == i
is_of i _ = false

-- the calls of one node, or all calls (own)
abbrev pub concerns : Option ℕ → Call → Bool
concerns None c = true
concerns (Some i) c = is_of i c

-- the nodes that run on, where the network was halted (own)
abbrev pub running_if : Network → List Entry → Told → Option (List ℕ)
running_if net h told = if told.is_halted then Some (running_in net h) else None

-- an entry behind these, in the words of a live run whose frames were all sent, and what became of the network and of slaves with it (own)
abbrev pub words_behind : Network → List Entry → Entry → List ℕ
words_behind net before e =
    let past = past_of before in
    let told = told_of net no_settings past (happening.Called e) in
    line_if (is_told e.call) (entry_told net e true (is_halted (phase_in net past)) (length before + 1) (unbooted_by past e))
    ++ told_lines told e (started_too true net (past_of (e ∷ before)) e.orders) (running_if net (e ∷ before) told)

-- the same, if its call is one of these (own)
abbrev pub lines_behind : Network → Option ℕ → List Entry → Entry → List ℕ
lines_behind net of_node before e = if concerns of_node e.call then words_behind net before e else []

-- a history: what was before, and behind it the newest entry (own)
abbrev pub history_told : Network → Option ℕ → List Entry → List ℕ
history_told net of_node [] = []
history_told net of_node (e ∷ before) = history_told net of_node before ++ lines_behind net of_node before e
