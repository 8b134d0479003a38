-- When a live run has to end (own).
use Rattle.std.specs.Prelude.{Bool, true, false, if◌then◌else◌, List, Result, Ok, Err}
use Rattle.std.specs.List.{list_any}
use Rattle.cm_watched.specs.declared.happening.Step.{Step}
use Rattle.cm_watched.specs.declared.happening.Step.TheVariants as step
use Rattle.canboot_turns.specs.declared.ending.Ending.{Ending}
use Rattle.canboot_turns.specs.declared.ending.Ending.TheVariants.{NotWritten, OutOfMemory}

-- it goes on, but where a frame couldn't be written, or an entry couldn't be told since memory was refused
abbrev pub going_on : Bool → Bool → Result (Unit {0}) Ending
going_on is_broken is_untold = if is_broken then Err NotWritten else (if is_untold then Err OutOfMemory else Ok tt)

-- the step is the end of the run
abbrev pub is_end_step : Step → Bool
is_end_step step.End = true
is_end_step _ = false

-- one of these steps is
abbrev pub is_ended_by : List Step → Bool
is_ended_by steps = list_any is_end_step steps
