-- Which steps are given at a time, told from the past (own).
use Rattle.std.specs.Prelude.{◌&&◌, ◌||◌, if◌then◌else◌, ◌-◌, ◌++◌, [], ◌∷◌, ℕ, Bool, not, List}
use Rattle.std.specs.Prelude.{nat_lt, min, map, filter, is_some, unwrap_or}
use Rattle.cm_history.specs.History.{is_empty}
use Rattle.cm_history.specs.Phases.{is_booting, is_ready}
use Rattle.cm_history.specs.declared.phase.Phase.{Phase}
use Rattle.cm_netlist.specs.Network.{Network, is_listed}
use Rattle.cm_nmt.specs.Listing.{node_ids}
use Rattle.cm_watch.specs.Course.{is_end_given, is_over_given, is_stopped_in, phase_in, started_at}
use Rattle.cm_watch.specs.Ends.{is_run_over}
use Rattle.cm_watched.specs.Guarding.{most_silence_of}
use Rattle.cm_watched.specs.Pasts.{Past}
use Rattle.cm_watched.specs.Schedules.{schedule_in}
use Rattle.cm_watched.specs.Signals.{budget_in, is_allowed, is_boot_up_left, is_urgent, news_in, news_of, pending_of}
use Rattle.cm_watched.specs.Waking.{stands_stopped}
use Rattle.cm_watched.specs.Slaves.{booted_since, heard_last, is_asked_in, is_busy_in, is_free, is_held_in, is_lost_given, is_overdue, is_tried_in}
use Rattle.cm_watched.specs.declared.happening.Moment.TheVariants as moment
use Rattle.cm_watched.specs.declared.happening.Step.{Step}
use Rattle.cm_watched.specs.declared.happening.Step.TheVariants as step
use Rattle.cm_watched.specs.declared.settings.Settings.{Settings}

-- ---- a slave that is lost

-- i is booted and watched, neither an error control message of it nor the report that booted it came in time, and it wasn't
-- given as lost since it was booted
abbrev pub is_late : Network → Past → ℕ → ℕ → Bool
is_late net past now i =
    is_overdue (most_silence_of net i) now (heard_last past i) (booted_since past i) && not (is_lost_given past i)

-- ---- a slave that is to be booted

-- the manager takes a boot: the network is started, and wasn't halted
abbrev pub takes_boots : Phase → Bool
takes_boots p = is_booting p || is_ready p

-- i is to be booted: the manager takes boots, all aren't stopped, or the operator has asked for it, no boot-up message of i waits to be
-- told, and i is free for it
abbrev pub is_to_be_booted : Network → Settings → Past → ℕ → ℕ → Bool
is_to_be_booted net s past now i =
    takes_boots (phase_in net past)
    && ((not (is_stopped_in past) || is_asked_in past i)
    && (is_listed net i
    && (not (is_boot_up_left past i)
    && is_free now (schedule_in net s past i) (is_busy_in past i) (is_held_in past i) (budget_in net s past i))))

-- where i is to be booted it is handed to its worker; where it stands stopped it is woken first, and booted once it has settled
abbrev pub boot_of : Network → Past → ℕ → Step
boot_of net past i = if stands_stopped net past i then step.Wake i else step.Boot i

-- ---- a signal

-- the manager is to be told of i: there is something, which is urgent, or i may cause a step, and i isn't booted just now
abbrev pub is_to_be_told : Network → Settings → Past → ℕ → ℕ → Bool
is_to_be_told net s past now i =
    is_listed net i
    && (is_some (news_of (news_in past i))
    && ((is_urgent (news_in past i) || is_allowed now (budget_in net s past i)) && not (is_to_be_booted net s past now i)))

abbrev pub signal_of : Past → ℕ → Step
signal_of past i = step.Signal i (unwrap_or (news_of (news_in past i)) 0)

-- more changes of i were heard than are told now, or next: so many are left out
abbrev pub is_left_out : Network → Settings → Past → ℕ → ℕ → Bool
is_left_out net s past now i = is_to_be_told net s past now i && nat_lt (pending_of (news_in past i)) (news_in past i).changes

abbrev pub left_out_of : Past → ℕ → Step
left_out_of past i = step.LeftOut i ((news_in past i).changes - pending_of (news_in past i))

-- ---- the time

-- the ms since the network was started, as far as a call can tell them
abbrev pub elapsed_at : Past → ℕ → ℕ
elapsed_at past now = min (now - unwrap_or (started_at past) 0) 0xFFFFFFFF

-- the time for the boot of the mandatory slaves is over while they are being booted, and that wasn't given yet
abbrev pub is_time_over : Network → Past → ℕ → Bool
is_time_over net past now =
    is_booting (phase_in net past)
    && (not (is_over_given past) && (nat_lt 0 net.boot_time && nat_lt net.boot_time (now - unwrap_or (started_at past) 0)))

-- each listed slave was tried
abbrev pub are_tried : Network → Past → Bool
are_tried net past = is_empty (filter (λ i. is_listed net i && not (is_tried_in past i)) node_ids)

-- the network is ready, or all slaves were tried, and the time wasn't given yet
abbrev pub is_end : Network → Past → Bool
is_end net past =
    takes_boots (phase_in net past) && (not (is_end_given past) && (is_ready (phase_in net past) || are_tried net past))

-- ---- all steps

-- a step where it is to be given
abbrev pub step_if : Bool → Step → List Step
step_if b s = if b then s ∷ [] else []

-- the steps at a time: the slaves that are lost, those to be booted or woken, what is left out, the signals, each in rising order,
-- the time, and behind all others the end of the run
abbrev pub steps_at : Network → Settings → Past → ℕ → List Step
steps_at net s past now =
    map step.Lost (filter (is_late net past now) node_ids)
    ++ map (boot_of net past) (filter (is_to_be_booted net s past now) node_ids)
    ++ map (left_out_of past) (filter (is_left_out net s past now) node_ids)
    ++ map (signal_of past) (filter (is_to_be_told net s past now) node_ids)
    ++ step_if (is_time_over net past now) (step.TimeOver (elapsed_at past now))
    ++ step_if (is_end net past) (step.AllTried (elapsed_at past now))
    ++ step_if (is_run_over past now) step.End

-- the past once the steps were given
abbrev pub given : ℕ → List Step → Past → Past
given now [] past = past
given now (x ∷ steps) past = given now steps ((now, moment.Gave x) ∷ past)
