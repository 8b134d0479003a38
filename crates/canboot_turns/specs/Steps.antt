-- The calls that a live run makes at its operator's seat for the steps of its watch (own).
use Rattle.std.specs.Prelude.{◌≡◌, List, ◌++◌, filter_map, Option, Some, None}
use Rattle.cm_crew.specs.CallsMade.{calls_made}
use Rattle.cm_history.specs.declared.call.Call.{Call}
use Rattle.cm_history.specs.declared.call.Call.TheVariants as call
use Rattle.cm_register.specs.SeatViews.{SeatView}
use Rattle.cm_watched.specs.declared.happening.Step.{Step}
use Rattle.cm_watched.specs.declared.happening.Step.TheVariants as step

-- the call that a step is, if it is one: a slave that is woken is asked to enter pre-operational, by the value 127 (CiA 302-2, request
-- NMT); a boot is handed to a worker, what was left out is told, what is sent for error control is a frame, and the run ends
abbrev pub call_for : Step → Option Call
call_for (step.Lost i) = Some (call.Lost i)
call_for (step.Boot i) = None
call_for (step.Wake i) = Some (call.Request i 127)
call_for (step.Signal i byte) = Some (call.Signal i byte)
call_for (step.LeftOut i n) = None
call_for (step.TimeOver ms) = Some (call.Elapsed ms)
call_for (step.AllTried ms) = Some (call.Elapsed ms)
call_for (step.Beat b) = None
call_for (step.Guard i) = None
call_for step.End = None

-- the seat has made just the calls of these steps more, each once, in their order
abbrev pub HasMade : List Step → SeatView → SeatView → Type 0
HasMade steps old new = calls_made new ≡ calls_made old ++ filter_map call_for steps
