-- What a past says of the network as a whole (own).
use Rattle.std.specs.Prelude.{ℕ, Bool, true, false, if◌then◌else◌, [], ◌∷◌, Option, Some, None, unwrap_or}
use Rattle.std.specs.Option.{option_or}
use Rattle.cm_history.specs.History.{is_start_by, phase_of}
use Rattle.cm_history.specs.Orders.{is_start_all, is_stop_all}
use Rattle.cm_history.specs.declared.call.Entry.{Entry}
use Rattle.cm_history.specs.declared.phase.Phase.{Phase}
use Rattle.cm_netlist.specs.Network.{Network, listing}
use Rattle.cm_watched.specs.Pasts.{Past, entries_in}
use Rattle.cm_watched.specs.declared.happening.Happening.TheVariants as happening
use Rattle.cm_watched.specs.declared.happening.Moment.{Moment}
use Rattle.cm_watched.specs.declared.happening.Moment.TheVariants as moment
use Rattle.cm_watched.specs.declared.happening.Step.TheVariants as step

-- how far the manager has come
abbrev pub phase_in : Network → Past → Phase
phase_in net past = phase_of (listing net) (entries_in past)

-- when the network was started
abbrev pub started_by : ℕ → Moment → Option ℕ
started_by t (moment.Happened (happening.Called e)) = if is_start_by e.call e.reply then Some t else None
started_by t _ = None

abbrev pub started_at : Past → Option ℕ
started_at [] = None
started_at (x ∷ past) = option_or (started_by x.0 x.1) (started_at past)

-- whether all are stopped, where an entry decides that: a stop of all, by the error handler or by a request, and behind that
-- a start of all, or of the network
abbrev pub stopped_by_entry : Entry → Option Bool
stopped_by_entry e =
    if is_start_by e.call e.reply then Some false
    else if is_stop_all e.orders then Some true
    else if is_start_all e.orders then Some false
    else None

abbrev pub stopped_by : Moment → Option Bool
stopped_by (moment.Happened (happening.Called e)) = stopped_by_entry e
stopped_by _ = None

abbrev pub is_stopped_in : Past → Bool
is_stopped_in [] = false
is_stopped_in (x ∷ past) = unwrap_or (stopped_by x.1) (is_stopped_in past)

-- whether it was given, since the network was started, that the time for its boot is over
abbrev pub over_by : Moment → Option Bool
over_by (moment.Gave (step.TimeOver ms)) = Some true
over_by (moment.Happened (happening.Called e)) = if is_start_by e.call e.reply then Some false else None
over_by _ = None

abbrev pub is_over_given : Past → Bool
is_over_given [] = false
is_over_given (x ∷ past) = unwrap_or (over_by x.1) (is_over_given past)

-- whether the time was given, since then, at which the network was ready or all slaves were tried
abbrev pub end_by : Moment → Option Bool
end_by (moment.Gave (step.AllTried ms)) = Some true
end_by (moment.Happened (happening.Called e)) = if is_start_by e.call e.reply then Some false else None
end_by _ = None

abbrev pub is_end_given : Past → Bool
is_end_given [] = false
is_end_given (x ∷ past) = unwrap_or (end_by x.1) (is_end_given past)
