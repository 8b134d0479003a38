-- Working definitions: what is kept of a slave and of the network, and what one moment makes of it.
use Rattle.std.specs.Prelude.{ℕ, Bool, Option, Some, None, true, false, if◌then◌else◌, unwrap_or}
use Rattle.std.specs.Option.{option_or}
use Rattle.cm_history.specs.Answering.{named_by}
use Rattle.cm_history.specs.Machine.{own_after, phase_after}
use Rattle.cm_history.specs.Orders.{is_node}
use Rattle.cm_history.specs.declared.call.Call.{Call}
use Rattle.cm_history.specs.declared.call.Orders.{Orders}
use Rattle.cm_history.specs.declared.call.Orders.TheVariants as orders
use Rattle.cm_history.specs.declared.phase.Phase.{Phase}
use Rattle.cm_history.specs.declared.phase.Phase.TheVariants as phase
use Rattle.cm_netlist.specs.Network.{Network, listing}
use Rattle.cm_nmt.specs.declared.state.NmtState.{NmtState}
use Rattle.cm_nmt.specs.declared.state.NmtState.TheVariants as state
use Rattle.std.specs.Prelude.{List}
use Rattle.cm_watched.specs.Beats.{beat_by, beat_last, own_in}
use Rattle.cm_watch.specs.Course.{end_by, is_end_given, is_over_given, is_stopped_in, over_by, phase_in, started_at, started_by, stopped_by}
use Rattle.cm_watched.specs.Guarding.{guard_last, toggle_in}
use Rattle.cm_watched.specs.Pasts.{Past}
use Rattle.cm_watched.specs.Schedules.{blank_schedule, schedule_in}
use Rattle.cm_watched.specs.Signals.{budget_in, full_budget, news_in}
use Rattle.cm_watched.specs.Slaves.{booted_since, heard_last, is_asked_in}
use Rattle.cm_watched.specs.Slaves.{is_busy_in, is_held_in, is_lost_given, is_tried_in}
use Rattle.cm_watched.specs.Waking.{stands_stopped}
use Rattle.cm_watch.specs.declared.course.Course.{Course}
use Rattle.cm_watched.specs.declared.happening.Happening.{Happening}
use Rattle.cm_watched.specs.declared.happening.Happening.TheVariants as happening
use Rattle.cm_watched.specs.declared.happening.Moment.{Moment}
use Rattle.cm_watched.specs.declared.happening.Moment.TheVariants as moment
use Rattle.cm_watched.specs.declared.happening.Step.{Step}
use Rattle.cm_watched.specs.declared.happening.Step.TheVariants as step
use Rattle.cm_watched.specs.declared.settings.Settings.{Settings}
use Rattle.cm_watched.specs.declared.shown.Since.TheVariants as since
use Rattle.cm_watched.specs.declared.slave.Slave.{Slave}

-- ---- a slave

-- what is kept of i
abbrev pub slave_of : Network → Settings → Past → ℕ → Slave
slave_of net s past i = record {
  heard = heard_last past i;
  booted = booted_since past i;
  is_busy = is_busy_in past i;
  is_held = is_held_in past i;
  is_lost = is_lost_given past i;
  is_tried = is_tried_in past i;
  is_asked = is_asked_in past i;
  is_stopped = stands_stopped net past i;
  schedule = schedule_in net s past i;
  news = news_in past i;
  budget = budget_in net s past i;
  guarded = guard_last past i;
  toggle = toggle_in net past i;
}

-- nothing has happened
abbrev pub blank_slave : Slave
blank_slave = record {
  heard = None;
  booted = None;
  is_busy = false;
  is_held = false;
  is_lost = false;
  is_tried = false;
  is_asked = false;
  is_stopped = false;
  schedule = blank_schedule;
  news = record { boot_up = false; rests = false; heard = None; told = None; shown = 0; since = since.Nothing; changes = 0 };
  budget = full_budget;
  guarded = None;
  toggle = false;
}

-- ---- which slave a moment may change

-- the orders reach no other node than j
abbrev pub reaches_only : Orders → ℕ → Bool
reaches_only orders.None j = true
reaches_only (orders.One f) j = is_node f.target j
reaches_only orders.ResetUnkept j = false

-- a node, where the orders reach no other
abbrev pub if_only : Orders → Option ℕ → Option ℕ
if_only o None = None
if_only o (Some j) = if reaches_only o j then Some j else None

-- the node that a call with these orders is about: that which it names, where its orders reach no other, as those of a loss that
-- is handled by a reset of all do, and those of a report behind which all are started
abbrev pub about_call : Call → Orders → Option ℕ
about_call c o = if_only o (named_by c)

abbrev pub about_happening : Happening → Option ℕ
about_happening (happening.Heard j b) = Some j
about_happening (happening.Called e) = about_call e.call e.orders
about_happening (happening.Ended j) = Some j
about_happening (happening.Asked j) = Some j
about_happening (happening.Ends at) = None

abbrev pub about_step : Step → Option ℕ
about_step (step.Lost j) = Some j
about_step (step.Boot j) = Some j
about_step (step.Wake j) = Some j
about_step (step.Signal j b) = Some j
about_step (step.LeftOut j n) = Some j
about_step (step.TimeOver ms) = None
about_step (step.AllTried ms) = None
about_step (step.Beat b) = None
about_step (step.Guard j) = Some j
about_step step.End = None

-- which node a moment is about: what is kept of each other slave stays as it is; none where it may be about all, or is
-- about none
abbrev pub about : Moment → Option ℕ
about (moment.Happened h) = about_happening h
about (moment.Gave s) = about_step s

-- ---- the network

-- what is kept of the network
abbrev pub course_of : Network → Past → Course
course_of net past = record {
  phase = phase_in net past;
  own = own_in net past;
  started = started_at past;
  is_stopped = is_stopped_in past;
  is_over_given = is_over_given past;
  is_end_given = is_end_given past;
  beat = beat_last past;
}

-- before any call
abbrev pub blank_course : Course
blank_course = record {
  phase = phase.Idle;
  own = state.PreOperational;
  started = None;
  is_stopped = false;
  is_over_given = false;
  is_end_given = false;
  beat = None;
}

-- the phase after the moment, with the slaves that are open then
abbrev pub phase_behind : Network → Moment → List ℕ → Phase → Phase
phase_behind net (moment.Happened (happening.Called e)) open_slaves p = phase_after (listing net) e.call e.reply open_slaves p
phase_behind net _ open_slaves p = p

-- the manager's own state after the moment, with the phases before and behind it
abbrev pub own_behind : Network → Moment → Phase → Phase → NmtState → NmtState
own_behind net (moment.Happened (happening.Called e)) before after own = own_after (listing net) e.call e.reply e.orders before after own
own_behind net _ before after own = own

abbrev pub course_after : Network → ℕ → Moment → List ℕ → Course → Course
course_after net t m open_slaves c = record {
  phase = phase_behind net m open_slaves c.phase;
  own = own_behind net m c.phase (phase_behind net m open_slaves c.phase) c.own;
  started = option_or (started_by t m) c.started;
  is_stopped = unwrap_or (stopped_by m) c.is_stopped;
  is_over_given = unwrap_or (over_by m) c.is_over_given;
  is_end_given = unwrap_or (end_by m) c.is_end_given;
  beat = option_or (beat_by t m) c.beat;
}
