-- What an operator is told behind a happening, beside what it is (own).
use Rattle.std.specs.Prelude.{ℕ, Bool, ◌==◌, ◌&&◌, not, if◌then◌else◌, ◌∷◌, Option, Some, None, is_none}
use Rattle.cm_history.specs.History.{is_boot_again, is_good_report}
use Rattle.cm_history.specs.Phases.{is_halted, is_ready}
use Rattle.cm_history.specs.declared.call.Call.{Call}
use Rattle.cm_history.specs.declared.call.Call.TheVariants as call
use Rattle.cm_history.specs.declared.call.Reply.{Reply}
use Rattle.cm_netlist.specs.Network.{Network}
use Rattle.cm_watch.specs.Course.{is_stopped_in, phase_in}
use Rattle.cm_watched.specs.Guarding.{most_silence_of}
use Rattle.cm_watched.specs.Pasts.{Past}
use Rattle.cm_watched.specs.Schedules.{schedule_in}
use Rattle.cm_watched.specs.Slaves.{booted_since, is_held_in}
use Rattle.cm_watched.specs.declared.happening.Happening.{Happening}
use Rattle.cm_watched.specs.declared.happening.Happening.TheVariants as happening
use Rattle.cm_watched.specs.declared.happening.Moment.TheVariants as moment
use Rattle.cm_watched.specs.declared.settings.Settings.{Settings}
use Rattle.cm_watch.specs.declared.telling.Told.{Told}

-- what holds now, and didn't before
abbrev pub becomes : Bool → Bool → Bool
becomes before now = not before && now

-- the slave whose boot-up message was answered by the call
abbrev pub back_by_call : Call → Reply → Option ℕ
back_by_call (call.Signal j b) r = if is_boot_again r then Some j else None
back_by_call _ r = None

abbrev pub back_by : Happening → Option ℕ
back_by (happening.Called e) = back_by_call e.call e.reply
back_by _ = None

-- the same, while all are stopped
abbrev pub back_while : Bool → Happening → Option ℕ
back_while stopped h = if stopped then back_by h else None

-- the slave that the call boots, and that isn't watched: it has neither a heartbeat time nor a node life time
abbrev pub unwatched_by_call : Network → Call → Reply → Option ℕ
unwatched_by_call net (call.Report j n a) r = if is_good_report r && most_silence_of net j == 0 then Some j else None
unwatched_by_call net _ r = None

abbrev pub unwatched_by : Network → Happening → Option ℕ
unwatched_by net (happening.Called e) = unwatched_by_call net e.call e.reply
unwatched_by net _ = None

-- j isn't booted, isn't held, and is to be booted at no time
abbrev pub is_given_up_at : Network → Settings → Past → ℕ → Bool
is_given_up_at net s past j = is_none (booted_since past j) && (not (is_held_in past j) && is_none (schedule_in net s past j).due)

-- the slave of which a worker's attempts have ended, that isn't booted, isn't held, and is to be booted at no time
abbrev pub given_up_of : Network → Settings → Past → Happening → Option ℕ
given_up_of net s past (happening.Ended j) = if is_given_up_at net s past j then Some j else None
given_up_of net s past _ = None

-- what is told of a happening, whenever it comes:
--   the network has become ready, or was halted
--   all were stopped
--   while all are stopped: a slave is back
--   a slave is booted that isn't watched
--   a slave was given up
abbrev pub told_of : Network → Settings → Past → Happening → Told
told_of net s past h =
    let after = (0, moment.Happened h) ∷ past in
    record {
      is_ready = becomes (is_ready (phase_in net past)) (is_ready (phase_in net after));
      is_halted = becomes (is_halted (phase_in net past)) (is_halted (phase_in net after));
      is_stopped = becomes (is_stopped_in past) (is_stopped_in after);
      back = back_while (is_stopped_in past) h;
      unwatched = unwatched_by net h;
      given_up = given_up_of net s past h;
    }
