-- Working definitions: what one moment makes of what is kept of a slave.
use Rattle.std.specs.Prelude.{ℕ, Bool, if◌then◌else◌, unwrap_or}
use Rattle.std.specs.Option.{option_or}
use Rattle.cm_netlist.specs.Network.{Network}
use Rattle.cm_watched.specs.Guarding.{guard_by, toggle_by}
use Rattle.cm_watched.specs.Schedules.{cause_by, schedule_after}
use Rattle.cm_watched.specs.Signals.{boot_up_by, changes_by, rests_by, shown_by, since_by, spends, spent}
use Rattle.cm_watched.specs.Signals.{state_heard_by, state_told_by}
use Rattle.cm_watched.specs.Slaves.{asked_by, booted_by, busy_by, heard_by, held_by}
use Rattle.cm_watched.specs.Slaves.{lost_by, tried_by}
use Rattle.cm_watched.specs.Waking.{stands_by}
use Rattle.cm_watched.specs.declared.happening.Moment.{Moment}
use Rattle.cm_watched.specs.declared.schedule.Schedule.{Schedule}
use Rattle.cm_watched.specs.declared.settings.Settings.{Settings}
use Rattle.cm_watched.specs.declared.signals.Budget.{Budget}
use Rattle.cm_watched.specs.declared.signals.News.{News}
use Rattle.cm_watched.specs.declared.slave.Slave.{Slave}

abbrev pub news_after : Moment → ℕ → News → News
news_after m i n = record {
  boot_up = unwrap_or (boot_up_by m i) n.boot_up;
  rests = unwrap_or (rests_by m i) n.rests;
  heard = option_or (state_heard_by m i) n.heard;
  told = option_or (state_told_by m i) n.told;
  shown = shown_by m i n.shown;
  since = since_by m i n.heard n.since;
  changes = changes_by m i n.heard n.changes;
}

abbrev pub budget_after : ℕ → Moment → ℕ → Bool → Schedule → Budget → Budget
budget_after t m i rests k b = if spends m rests k i then spent t b else b

-- what is kept of i after the moment m at the time t
abbrev pub slave_after : Network → Settings → ℕ → Moment → ℕ → Slave → Slave
slave_after net s t m i k = record {
  heard = option_or (heard_by t m i) k.heard;
  booted = unwrap_or (booted_by t m i) k.booted;
  is_busy = unwrap_or (busy_by m i) k.is_busy;
  is_held = unwrap_or (held_by m i) k.is_held;
  is_lost = unwrap_or (lost_by m i) k.is_lost;
  is_tried = unwrap_or (tried_by m i) k.is_tried;
  is_asked = unwrap_or (asked_by m i) k.is_asked;
  is_stopped = unwrap_or (stands_by net m i) k.is_stopped;
  schedule = schedule_after net s t i (cause_by m i) k.schedule;
  news = news_after m i k.news;
  budget = budget_after t m i k.news.rests k.schedule k.budget;
  guarded = option_or (guard_by t m i) k.guarded;
  toggle = unwrap_or (toggle_by net m i) k.toggle;
}
