-- The numbers that CiA 301 and CiA 302-2 give to NMT states and commands.
use Rattle.std.specs.Prelude.{ℕ, ◌==◌, ◌%◌, if◌then◌else◌, Option, Some, None, option_map}
use Rattle.cm_nmt.specs.declared.state.NmtState.{NmtState}
use Rattle.cm_nmt.specs.declared.state.NmtState.TheVariants.{Stopped, Operational, PreOperational}
use Rattle.cm_nmt.specs.declared.signal.Signal.{Signal}
use Rattle.cm_nmt.specs.declared.signal.Signal.TheVariants.{BootUp, State}
use Rattle.cm_nmt.specs.declared.command.Command.{Command}
use Rattle.cm_nmt.specs.declared.command.Command.TheVariants.{Start, Stop, EnterPre, ResetNode, ResetComm}

-- a state's number in an error control message (CiA 301, heartbeat)
abbrev pub state_code : NmtState → ℕ
state_code Stopped = 4
state_code Operational = 5
state_code PreOperational = 127

-- a command's specifier: 01h, 02h, 80h, 81h, 82h (CiA 301, NMT node control)
abbrev pub specifier_code : Command → ℕ
specifier_code Start = 0x01
specifier_code Stop = 0x02
specifier_code EnterPre = 0x80
specifier_code ResetNode = 0x81
specifier_code ResetComm = 0x82

-- the state that has this number
abbrev pub state_of_code : ℕ → Option NmtState
state_of_code code =
    if code == 4 then Some Stopped
    else if code == 5 then Some Operational
    else if code == 127 then Some PreOperational
    else None

-- a signal's number in an error control message: 0 for boot-up, else that of the state (CiA 301,
-- heartbeat and boot-up)
abbrev pub signal_code : Signal → ℕ
signal_code BootUp = 0
signal_code (State s) = state_code s

-- the signal of a message's byte; bit 7, the toggle bit of node guarding, is masked (own)
abbrev pub signal_of : ℕ → Option Signal
signal_of byte = if byte % 128 == 0 then Some BootUp else option_map (λ s. State s) (state_of_code (byte % 128))

-- the command that a value written to 1F82h asks for (CiA 302-2, request NMT)
abbrev pub command_of_request : ℕ → Option Command
command_of_request value =
    if value == 4 then Some Stop
    else if value == 5 then Some Start
    else if value == 6 then Some ResetNode
    else if value == 7 then Some ResetComm
    else if value == 127 then Some EnterPre
    else None

-- the state in which a command leaves a device, by its number; 0, unknown, for a reset (CiA 301, NMT node control)
abbrev pub state_left : Command → ℕ
state_left Start = 5
state_left Stop = 4
state_left EnterPre = 127
state_left ResetNode = 0
state_left ResetComm = 0
