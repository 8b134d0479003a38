-- When a slave is to be booted (own). At a start of the network and behind a reset it settles, until its boot-up message
-- comes or the settle time is over. One that reboots by itself or is lost is booted at once, and where that happens again and
-- again, after 1, 2, 4 .. 60 s. At once too where it is released, or the operator asks for it; one that is woken settles first.
use Rattle.std.specs.Prelude.{◌==◌, ◌&&◌, ◌||◌, if◌then◌else◌, ◌+◌, ◌-◌, [], ◌∷◌, ℕ, Bool, true, false}
use Rattle.std.specs.Prelude.{nat_le, max, min, Option, Some, None}
use Rattle.cm_history.specs.History.{is_boot_again, is_granted, is_handled, is_reset_value}
use Rattle.cm_history.specs.Orders.{is_reset_all}
use Rattle.cm_history.specs.declared.call.Call.{Call}
use Rattle.cm_history.specs.declared.call.Call.TheVariants as call
use Rattle.cm_history.specs.declared.call.Orders.{Orders}
use Rattle.cm_history.specs.declared.call.Reply.{Reply}
use Rattle.cm_netlist.specs.Network.{Network, is_kept}
use Rattle.cm_watched.specs.Pasts.{Past}
use Rattle.cm_watched.specs.declared.happening.Happening.TheVariants as happening
use Rattle.cm_watched.specs.declared.happening.Moment.{Moment}
use Rattle.cm_watched.specs.declared.happening.Moment.TheVariants as moment
use Rattle.cm_watched.specs.declared.happening.Step.TheVariants as step
use Rattle.cm_watched.specs.declared.schedule.Again.{Again}
use Rattle.cm_watched.specs.declared.schedule.Cause.{Cause}
use Rattle.cm_watched.specs.declared.schedule.Cause.TheVariants as cause
use Rattle.cm_watched.specs.declared.schedule.Due.{Due}
use Rattle.cm_watched.specs.declared.schedule.Schedule.{Schedule}
use Rattle.cm_watched.specs.declared.settings.Settings.{Settings}

-- ---- causes

-- what a call is for the schedule of i, where it is something:
--   a granted start of the network
--   a boot-up message of i
--   the loss of i, booted, or that of another slave which is handled by a reset of all
--   a granted request that resets i or all
--   a granted hold of i, behind which it isn't to be booted
--   a granted release of i, behind which it is wanted
abbrev pub cause_by_call : Call → Reply → Orders → ℕ → Option Cause
cause_by_call call.StartNetwork r o i = if is_granted r then Some cause.Started else None
cause_by_call (call.Signal j b) r o i = if is_boot_again r && j == i then Some cause.BootUp else None
cause_by_call (call.Lost j) r o i =
    if is_handled r && j == i then Some cause.Lost else (if is_handled r && is_reset_all o then Some cause.Reset else None)
cause_by_call (call.Request t v) r o i = if is_granted r && (is_reset_value v && (t == i || t == 128)) then Some cause.Reset else None
cause_by_call (call.Hold j) r o i = if is_granted r && j == i then Some cause.Dropped else None
cause_by_call (call.Release j) r o i = if is_granted r && j == i then Some cause.Wanted else None
cause_by_call _ r o i = None

-- and what a moment is: the operator asks for a boot of i; or one is given, behind which it isn't to be booted; or it is woken
abbrev pub cause_by : Moment → ℕ → Option Cause
cause_by (moment.Happened (happening.Called e)) i = cause_by_call e.call e.reply e.orders i
cause_by (moment.Happened (happening.Asked j)) i = if j == i then Some cause.Wanted else None
cause_by (moment.Gave (step.Boot j)) i = if j == i then Some cause.Dropped else None
cause_by (moment.Gave (step.Wake j)) i = if j == i then Some cause.Woken else None
cause_by _ i = None

-- ---- again and again

-- there was none, or it was so many ms ago or longer
abbrev pub is_quiet_for : ℕ → ℕ → Option ℕ → Bool
is_quiet_for ms now None = true
is_quiet_for ms now (Some t) = nat_le ms (now - t)

-- how often it happened before, with no ten minutes of quiet between
abbrev pub count_now : ℕ → Again → ℕ
count_now now a = if is_quiet_for 600000 now a.last then 0 else a.count

-- once more; seven times are as good as more
abbrev pub counted : ℕ → Again → Again
counted now a = record { count = min 7 (count_now now a + 1); last = Some now }

-- how long a boot waits, in ms, where it happened so often before
abbrev pub pause_of : ℕ → ℕ
pause_of n =
    if n == 0 then 0
    else if n == 1 then 1000
    else if n == 2 then 2000
    else if n == 3 then 4000
    else if n == 4 then 8000
    else if n == 5 then 16000
    else if n == 6 then 32000
    else 60000

-- ---- the schedule

-- how long i settles behind a start of the network: one that is kept alive isn't reset
abbrev pub settle_of : Network → Settings → ℕ → ℕ
settle_of net s i = if is_kept net i then 0 else s.settle_ms

-- it is to be booted behind this pause, whatever comes
abbrev pub paused : ℕ → ℕ → Due
paused now pause = record { earliest = now + pause; latest = now + pause; is_own = true }

-- its boot-up message came: it is to be booted now, or at the end of its pause
abbrev pub boot_up_due : ℕ → Option Due → Again → Due
boot_up_due now None a = paused now (pause_of (count_now now a))
boot_up_due now (Some d) a = record { earliest = d.earliest; latest = max d.earliest now; is_own = d.is_own }

-- it settles for so many ms; its boot-up message may come before
abbrev pub settling : ℕ → ℕ → Due
settling now ms = record { earliest = now; latest = now + ms; is_own = false }

-- it is lost, and was reset: it settles, and waits for its pause at least
abbrev pub lost_due : Settings → ℕ → Again → Due
lost_due s now a =
    let pause = pause_of (count_now now a) in
    record { earliest = now + pause; latest = now + max pause s.settle_ms; is_own = false }

-- when i is to be booted, behind a cause
abbrev pub due_after : Network → Settings → ℕ → ℕ → Cause → Option Due → Again → Option Due
due_after net s now i cause.Started d a = Some (settling now (settle_of net s i))
due_after net s now i cause.Reset d a = Some (settling now s.settle_ms)
due_after net s now i cause.BootUp d a = Some (boot_up_due now d a)
due_after net s now i cause.Lost d a = Some (lost_due s now a)
due_after net s now i cause.Wanted d a = Some (settling now 0)
due_after net s now i cause.Woken d a = Some (settling now s.settle_ms)
due_after net s now i cause.Dropped d a = None

-- how often it rebooted by itself or was lost: a boot-up message behind a reset isn't counted, and at a start of the network
-- all is forgotten
abbrev pub again_after : ℕ → Cause → Option Due → Again → Again
again_after now cause.Started d a = record { count = 0; last = None }
again_after now cause.BootUp None a = counted now a
again_after now cause.Lost d a = counted now a
again_after now _ d a = a

abbrev pub schedule_after : Network → Settings → ℕ → ℕ → Option Cause → Schedule → Schedule
schedule_after net s now i None k = k
schedule_after net s now i (Some c) k = record { due = due_after net s now i c k.due k.again; again = again_after now c k.due k.again }

-- nothing has happened
abbrev pub blank_schedule : Schedule
blank_schedule = record { due = None; again = record { count = 0; last = None } }

-- when i is to be booted
abbrev pub schedule_in : Network → Settings → Past → ℕ → Schedule
schedule_in net s [] i = blank_schedule
schedule_in net s (x ∷ past) i = schedule_after net s x.0 i (cause_by x.1 i) (schedule_in net s past i)

-- its boot-up message alone is the cause
abbrev pub is_own : Option Due → Bool
is_own None = false
is_own (Some d) = d.is_own

-- the time has come
abbrev pub is_due : ℕ → Option Due → Bool
is_due now None = false
is_due now (Some d) = nat_le d.latest now
