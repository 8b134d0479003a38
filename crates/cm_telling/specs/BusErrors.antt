-- What is told of the errors of the bus: each once until it changes (own).
use Rattle.std.specs.Prelude.{Bool, true, false, ◌&&◌, not, if◌then◌else◌, Option, Some, None}
use Rattle.cm_can.specs.Errors.{bus_state_of, is_unacknowledged}
use Rattle.cm_can.specs.declared.can_error.BusState.{BusState}
use Rattle.cm_can.specs.declared.can_error.BusState.TheVariants.{Active, Warning, Passive, Off, Restarted}
use Rattle.cm_can.specs.declared.can_error.CanError.{CanError}
use Rattle.cm_telling.specs.declared.bus_told.BusTold.{BusTold}
use Rattle.cm_telling.specs.declared.bus_told.ErrorNotice.{ErrorNotice}
use Rattle.cm_telling.specs.declared.bus_told.ErrorNotice.TheVariants as notice

-- nothing was said
abbrev pub nothing_told : BusTold
nothing_told = record { is_unacknowledged = false; state = None }

-- both are the same state
abbrev pub is_same_state : BusState → BusState → Bool
is_same_state Active Active = true
is_same_state Warning Warning = true
is_same_state Passive Passive = true
is_same_state Off Off = true
is_same_state Restarted Restarted = true
is_same_state s t = false

-- it isn't the state that was said last
abbrev pub is_other_state : Option BusState → BusState → Bool
is_other_state None s = true
is_other_state (Some t) s = not (is_same_state t s)

-- the controller takes part again
abbrev pub is_well : BusState → Bool
is_well Active = true
is_well Restarted = true
is_well s = false

-- the state that is to be told: another than the one said last
abbrev pub state_to_tell : Option BusState → Option BusState → Option BusState
state_to_tell told None = None
state_to_tell told (Some s) = if is_other_state told s then Some s else None

-- that nobody acknowledges is said, and wasn't before
abbrev pub is_news : BusTold → CanError → Bool
is_news b e = is_unacknowledged e && not b.is_unacknowledged

-- what is told, where this is the state to be told: it, or that nobody acknowledges
abbrev pub notice_with : BusTold → CanError → Option BusState → Option ErrorNotice
notice_with b e (Some s) = Some (notice.State s)
notice_with b e None = if is_news b e then Some notice.Unacknowledged else None

abbrev pub error_notice : BusTold → CanError → Option ErrorNotice
error_notice b e = notice_with b e (state_to_tell b.state (bus_state_of e))

-- what was said then; that nobody acknowledges is forgotten where the controller takes part again
abbrev pub behind_with : BusTold → CanError → Option BusState → BusTold
behind_with b e (Some s) = record { is_unacknowledged = b.is_unacknowledged && not (is_well s); state = Some s }
behind_with b e None = if is_news b e then record { is_unacknowledged = true; state = b.state } else b

abbrev pub behind_error : BusTold → CanError → BusTold
behind_error b e = behind_with b e (state_to_tell b.state (bus_state_of e))
