-- When a watch has what a past says (own).
use Rattle.std.specs.Prelude.{◌≡◌, ◌<◌, ◌≤◌, ◌&&◌, ◌||◌, ◌-◌, ◌++◌, if◌then◌else◌, ℕ, Bool, not, List}
use Rattle.std.specs.Prelude.{nat_lt, min, map, filter, is_none, is_some, slice_index_or, unwrap_or}
use Rattle.cm_history.specs.History.{is_empty}
use Rattle.cm_history.specs.Phases.{is_booting, is_ready}
use Rattle.cm_netlist.specs.Network.{Network, is_listed, listing}
use Rattle.cm_nmt.specs.Listing.{is_mandatory, node_ids}
use Rattle.cm_watch.specs.Ends.{ends_in, has_come}
use Rattle.cm_watch.specs.Kept.{blank_slave, course_of, slave_of}
use Rattle.cm_watched.specs.Pasts.{Past}
use Rattle.cm_watched.specs.Signals.{is_allowed, is_urgent, news_of, pending_of}
use Rattle.cm_watched.specs.Beats.{beat_byte, is_beat_due}
use Rattle.cm_watched.specs.Guarding.{counts_for, guard_of, is_asked_again, most_silence_of}
use Rattle.cm_watched.specs.Slaves.{is_free, is_overdue}
use Rattle.cm_watch.specs.Steps.{step_if, takes_boots}
use Rattle.cm_watched.specs.declared.happening.Step.{Step}
use Rattle.cm_watched.specs.declared.happening.Step.TheVariants as step
use Rattle.cm_watched.specs.declared.settings.Settings.{Settings}
use Rattle.cm_watched.specs.declared.slave.Slave.{Slave}
use Rattle.cm_watch.specs.declared.watch.Kind.{Kind}
use Rattle.cm_watch.specs.declared.watch.Kind.TheVariants as kind
use Rattle.cm_watch.specs.declared.watch.Pending.{Pending}
use Rattle.cm_watch.specs.declared.watch.Pending.TheVariants as pending
use Rattle.cm_watch.specs.declared.watch.Watch.{Watch}

-- what is kept of i
abbrev pub kept_at : List Slave → ℕ → Slave
kept_at slaves i = slice_index_or slaves i blank_slave

-- of each node what the past says of it is kept
abbrev pub AreSlaves : List Slave → Network → Settings → Past → Type 0
AreSlaves slaves net s past = (i : ℕ) → 1 ≤ i → i < 128 → kept_at slaves i ≡ slave_of net s past i

-- the watch has what the past says, with this network list and these settings
pub record Watches (w : Watch) (net : Network) (s : Settings) (past : Past) : Type 0 where
  pub settings : w.settings ≡ s
  pub slaves : AreSlaves w.slaves net s past
  pub course : w.course ≡ course_of net past
  pub ends : w.ends ≡ ends_in past

-- ---- working definitions: what the watch does by what it keeps

abbrev pub is_late_by : Watch → Network → ℕ → ℕ → Bool
is_late_by w net now i = let k = kept_at w.slaves i in is_overdue (most_silence_of net i) now k.heard k.booted && not k.is_lost

abbrev pub is_to_be_booted_by : Watch → Network → ℕ → ℕ → Bool
is_to_be_booted_by w net now i =
    let k = kept_at w.slaves i in
    takes_boots w.course.phase
    && ((not w.course.is_stopped || k.is_asked)
    && (is_listed net i && (not k.news.boot_up && is_free now k.schedule k.is_busy k.is_held k.budget)))

abbrev pub boot_by : Watch → ℕ → Step
boot_by w i = if (kept_at w.slaves i).is_stopped then step.Wake i else step.Boot i

abbrev pub is_to_be_told_by : Watch → Network → ℕ → ℕ → Bool
is_to_be_told_by w net now i =
    let k = kept_at w.slaves i in
    is_listed net i
    && (is_some (news_of k.news) && ((is_urgent k.news || is_allowed now k.budget) && not (is_to_be_booted_by w net now i)))

abbrev pub signal_by : Watch → ℕ → Step
signal_by w i = step.Signal i (unwrap_or (news_of (kept_at w.slaves i).news) 0)

abbrev pub is_left_out_by : Watch → Network → ℕ → ℕ → Bool
is_left_out_by w net now i = is_to_be_told_by w net now i && nat_lt (pending_of (kept_at w.slaves i).news) (kept_at w.slaves i).news.changes

abbrev pub left_out_by : Watch → ℕ → Step
left_out_by w i = step.LeftOut i ((kept_at w.slaves i).news.changes - pending_of (kept_at w.slaves i).news)

-- a mandatory slave isn't booted
abbrev pub is_open_by : List Slave → Network → ℕ → Bool
is_open_by slaves net i = is_mandatory (listing net) i && not (is_some (kept_at slaves i).booted)

-- a listed slave wasn't tried
abbrev pub is_untried_by : List Slave → Network → ℕ → Bool
is_untried_by slaves net i = is_listed net i && not (kept_at slaves i).is_tried

abbrev pub is_pending_by : List Slave → Network → Pending → ℕ → Bool
is_pending_by slaves net pending.Open i = is_open_by slaves net i
is_pending_by slaves net pending.Untried i = is_untried_by slaves net i

abbrev pub are_tried_by : Watch → Network → Bool
are_tried_by w net = is_empty (filter (is_pending_by w.slaves net pending.Untried) node_ids)

abbrev pub is_guard_due_by : Watch → Network → ℕ → ℕ → Bool
is_guard_due_by w net now i = let k = kept_at w.slaves i in is_asked_again (guard_of net i) now k.guarded k.booted

-- a step of this kind, and whether it is to be given
abbrev pub is_given_by : Watch → Network → ℕ → Kind → ℕ → Bool
is_given_by w net now kind.Lost i = is_late_by w net now i
is_given_by w net now kind.Boot i = is_to_be_booted_by w net now i
is_given_by w net now kind.LeftOut i = is_left_out_by w net now i
is_given_by w net now kind.Signal i = is_to_be_told_by w net now i
is_given_by w net now kind.Guard i = is_guard_due_by w net now i

abbrev pub step_by : Watch → Kind → ℕ → Step
step_by w kind.Lost i = step.Lost i
step_by w kind.Boot i = boot_by w i
step_by w kind.LeftOut i = left_out_by w i
step_by w kind.Signal i = signal_by w i
step_by w kind.Guard i = step.Guard i

-- the steps of one kind, in rising order
abbrev pub steps_of_kind : Watch → Network → ℕ → Kind → List Step
steps_of_kind w net now k = map (step_by w k) (filter (is_given_by w net now k) node_ids)

abbrev pub elapsed_by : Watch → ℕ → ℕ
elapsed_by w now = min (now - unwrap_or w.course.started 0) 0xFFFFFFFF

abbrev pub is_time_over_by : Watch → Network → ℕ → Bool
is_time_over_by w net now =
    is_booting w.course.phase
    && (not w.course.is_over_given && (nat_lt 0 net.boot_time && nat_lt net.boot_time (now - unwrap_or w.course.started 0)))

abbrev pub is_end_by : Watch → Network → Bool
is_end_by w net =
    takes_boots w.course.phase && (not w.course.is_end_given && (is_ready w.course.phase || are_tried_by w net))

abbrev pub is_run_over_by : Watch → ℕ → Bool
is_run_over_by w now = has_come now w.ends

abbrev pub steps_by : Watch → Network → ℕ → List Step
steps_by w net now =
    steps_of_kind w net now kind.Lost
    ++ steps_of_kind w net now kind.Boot
    ++ steps_of_kind w net now kind.LeftOut
    ++ steps_of_kind w net now kind.Signal
    ++ step_if (is_time_over_by w net now) (step.TimeOver (elapsed_by w now))
    ++ step_if (is_end_by w net) (step.AllTried (elapsed_by w now))
    ++ step_if (is_run_over_by w now) step.End

-- i isn't booted, isn't held, and is to be booted at no time
abbrev pub is_given_up_by : Watch → ℕ → Bool
is_given_up_by w i = let k = kept_at w.slaves i in is_none k.booted && (not k.is_held && is_none k.schedule.due)

-- a message of i with this byte counts
abbrev pub counts_by : Watch → Network → ℕ → ℕ → Bool
counts_by w net i b = let k = kept_at w.slaves i in counts_for (guard_of net i) k.booted k.toggle b

-- what is sent for error control
abbrev pub error_control_by : Watch → Network → ℕ → List Step
error_control_by w net now =
    step_if (is_beat_due w.settings.heartbeat_ms now w.course.beat) (step.Beat (beat_byte w.course.beat w.course.own))
    ++ steps_of_kind w net now kind.Guard
