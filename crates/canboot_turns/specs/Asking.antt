-- What comes of what an operator types: what the watch is told, and which call is made (own).
use Rattle.std.specs.Prelude.{ℕ, Bool, ◌&&◌, not, if◌then◌else◌, List, [], ◌∷◌, is_some, Option, Some, None}
use Rattle.cm_history.specs.Phases.{is_halted}
use Rattle.cm_history.specs.declared.call.Call.{Call}
use Rattle.cm_history.specs.declared.call.Call.TheVariants as call
use Rattle.cm_operator.specs.declared.console.Command.{Command}
use Rattle.cm_operator.specs.declared.console.Command.TheVariants as command
use Rattle.cm_netlist.specs.Network.{Network, is_listed}
use Rattle.cm_watch.specs.Course.{is_stopped_in, phase_in}
use Rattle.cm_watched.specs.Pasts.{Past}
use Rattle.cm_watched.specs.Slaves.{booted_since, is_held_in}
use Rattle.cm_watched.specs.declared.happening.Happening.TheVariants as happening
use Rattle.cm_watched.specs.declared.happening.Moment.TheVariants as moment
use Rattle.cm_telling.specs.declared.no_boot.NoBoot.{NoBoot}
use Rattle.cm_telling.specs.declared.no_boot.NoBoot.TheVariants.{NotListed, Halted, Held, Booted}

-- why slave i isn't booted though its operator asks for it, the first that applies; none where the watch is asked
abbrev pub no_boot_of : Network → Past → ℕ → Option NoBoot
no_boot_of net past i =
    if not (is_listed net i) then Some NotListed
    else (if is_halted (phase_in net past) then Some Halted
    else (if is_held_in past i then Some Held
    else (if is_some (booted_since past i) then Some Booted else None)))

-- the network is started by a request to all nodes: all are stopped, and it isn't halted
abbrev pub is_start_of_all : Network → Past → Bool
is_start_of_all net past = is_stopped_in past && not (is_halted (phase_in net past))

-- the watch is asked for a boot of slave i at this time, where nothing stands against it
abbrev pub asked_unless : Option NoBoot → ℕ → ℕ → Past
asked_unless (Some why) i now = []
asked_unless None i now = (now, moment.Happened (happening.Asked i)) ∷ []

-- what the watch is told, at its time, of what a line asks for: a boot, where nothing stands against it; the end of the run, now; of what
-- else is asked for, or of a line that asks for nothing, it is told nothing
abbrev pub asked_of : Option Command → Network → Past → ℕ → Past
asked_of (Some (command.Boot i)) net past now = asked_unless (no_boot_of net past i) i now
asked_of (Some command.Quit) net past now = (now, moment.Happened (happening.Ends now)) ∷ []
asked_of _ net past now = []

-- the calls that are made of what a line asks for: that of the line, its request, or the start of the network, or, where all nodes are
-- stopped, of all nodes; of what else is asked for, or of a line that asks for nothing, none is made
abbrev pub calls_asked : Option Command → Network → Past → List Call
calls_asked (Some (command.Make c)) net past = c ∷ []
calls_asked (Some (command.Request t v)) net past = call.Request t v ∷ []
calls_asked (Some command.Start) net past = (if is_start_of_all net past then call.Request 128 5 else call.StartNetwork) ∷ []
calls_asked _ net past = []
