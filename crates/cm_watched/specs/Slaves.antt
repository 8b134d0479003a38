-- What a past says of each slave (own, but where a standard is named). A past is given with its newest moment first:
-- `(t, m) ∷ past` is `past`, and then the moment m at the time t, in ms. Each definition looks back for the newest moment
-- that decides.
use Rattle.std.specs.Prelude.{ℕ, Bool, true, false, not, ◌&&◌, ◌||◌, ◌-◌, ◌==◌, if◌then◌else◌, [], ◌∷◌}
use Rattle.std.specs.Prelude.{Option, Some, None, max, nat_lt, unwrap_or}
use Rattle.std.specs.Option.{option_or}
use Rattle.cm_history.specs.History.{boots, clears, holds_by, is_start_by}
use Rattle.cm_watched.specs.Pasts.{Past}
use Rattle.cm_watched.specs.Schedules.{is_due, is_own}
use Rattle.cm_watched.specs.Signals.{is_allowed}
use Rattle.cm_watched.specs.declared.happening.Happening.TheVariants as happening
use Rattle.cm_watched.specs.declared.happening.Moment.{Moment}
use Rattle.cm_watched.specs.declared.happening.Moment.TheVariants as moment
use Rattle.cm_watched.specs.declared.happening.Step.TheVariants as step
use Rattle.cm_watched.specs.declared.schedule.Schedule.{Schedule}
use Rattle.cm_watched.specs.declared.signals.Budget.{Budget}

-- when i was heard in an error control message
abbrev pub heard_by : ℕ → Moment → ℕ → Option ℕ
heard_by t (moment.Happened (happening.Heard j b)) i = if j == i then Some t else None
heard_by t _ i = None

abbrev pub heard_last : Past → ℕ → Option ℕ
heard_last [] i = None
heard_last (x ∷ past) i = option_or (heard_by x.0 x.1 i) (heard_last past i)

-- since when i is booted, where the moment decides that: a report boots it, or an entry clears it
abbrev pub booted_by : ℕ → Moment → ℕ → Option (Option ℕ)
booted_by t (moment.Happened (happening.Called e)) i = if boots e i then Some (Some t) else (if clears e i then Some None else None)
booted_by t _ i = None

abbrev pub booted_since : Past → ℕ → Option ℕ
booted_since [] i = None
booted_since (x ∷ past) i = unwrap_or (booted_by x.0 x.1 i) (booted_since past i)

-- whether a worker has i: from the step on by which it boots it, until its attempts have ended
abbrev pub busy_by : Moment → ℕ → Option Bool
busy_by (moment.Gave (step.Boot j)) i = if j == i then Some true else None
busy_by (moment.Happened (happening.Ended j)) i = if j == i then Some false else None
busy_by _ i = None

abbrev pub is_busy_in : Past → ℕ → Bool
is_busy_in [] i = false
is_busy_in (x ∷ past) i = unwrap_or (busy_by x.1 i) (is_busy_in past i)

-- whether an operator holds i
abbrev pub held_by : Moment → ℕ → Option Bool
held_by (moment.Happened (happening.Called e)) i = holds_by e.call e.reply i
held_by _ i = None

abbrev pub is_held_in : Past → ℕ → Bool
is_held_in [] i = false
is_held_in (x ∷ past) i = unwrap_or (held_by x.1 i) (is_held_in past i)

-- whether i was given as lost since it was booted last
abbrev pub lost_by : Moment → ℕ → Option Bool
lost_by (moment.Gave (step.Lost j)) i = if j == i then Some true else None
lost_by (moment.Happened (happening.Called e)) i = if boots e i then Some false else None
lost_by _ i = None

abbrev pub is_lost_given : Past → ℕ → Bool
is_lost_given [] i = false
is_lost_given (x ∷ past) i = unwrap_or (lost_by x.1 i) (is_lost_given past i)

-- whether a worker's attempts at i have ended since the network was started
abbrev pub tried_by : Moment → ℕ → Option Bool
tried_by (moment.Happened (happening.Ended j)) i = if j == i then Some true else None
tried_by (moment.Happened (happening.Called e)) i = if is_start_by e.call e.reply then Some false else None
tried_by _ i = None

abbrev pub is_tried_in : Past → ℕ → Bool
is_tried_in [] i = false
is_tried_in (x ∷ past) i = unwrap_or (tried_by x.1 i) (is_tried_in past i)

-- whether the operator has asked for a boot of i, and none was given since
abbrev pub asked_by : Moment → ℕ → Option Bool
asked_by (moment.Happened (happening.Asked j)) i = if j == i then Some true else None
asked_by (moment.Gave (step.Boot j)) i = if j == i then Some false else None
asked_by _ i = None

abbrev pub is_asked_in : Past → ℕ → Bool
is_asked_in [] i = false
is_asked_in (x ∷ past) i = unwrap_or (asked_by x.1 i) (is_asked_in past i)

-- ---- what may be done with it

-- what is booted since some time, and was heard last at another, wasn't heard within h ms
abbrev pub is_overdue : ℕ → ℕ → Option ℕ → Option ℕ → Bool
is_overdue h now heard None = false
is_overdue h now heard (Some since) = nat_lt 0 h && nat_lt h (now - max (unwrap_or heard 0) since)

-- the slave itself stands in the way: it isn't due, a worker has it, an operator holds it, or it has caused too much
abbrev pub is_free : ℕ → Schedule → Bool → Bool → Budget → Bool
is_free now k busy held b = is_due now k.due && (not busy && (not held && (not (is_own k.due) || is_allowed now b)))
