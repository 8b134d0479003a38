-- What error frames say (Linux, `linux/can/error.h`: the error class, and of an error of the controller data byte 1).
use Rattle.std.specs.Prelude.{ℕ, Bool, ◌||◌, Option, Some, None, if◌then◌else◌}
use Rattle.cm_nmt.specs.Bits.{has_bit}
use Rattle.cm_can.specs.declared.can_error.BusState.{BusState}
use Rattle.cm_can.specs.declared.can_error.BusState.TheVariants.{Active, Warning, Passive, Off, Restarted}
use Rattle.cm_can.specs.declared.can_error.CanError.{CanError}

-- what byte 1 says of the controller: error passive (010h of what it receives, 020h of what it sends), error warning (004h, 008h),
-- error active again (040h)
abbrev pub state_of_controller : ℕ → Option BusState
state_of_controller byte =
    if has_bit byte 4 || has_bit byte 5 then Some Passive
    else if has_bit byte 2 || has_bit byte 3 then Some Warning
    else if has_bit byte 6 then Some Active
    else None

-- the state of the controller, by the class: bus off (040h), restarted (100h), or what is said of the controller (004h)
abbrev pub bus_state_of : CanError → Option BusState
bus_state_of e =
    if has_bit e.class.0 6 then Some Off
    else if has_bit e.class.0 8 then Some Restarted
    else if has_bit e.class.0 2 then state_of_controller e.controller.0
    else None

-- no other node acknowledges what is sent (020h)
abbrev pub is_unacknowledged : CanError → Bool
is_unacknowledged e = has_bit e.class.0 5
