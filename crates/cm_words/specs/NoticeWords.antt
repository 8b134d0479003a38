-- What a live run tells of what the bus says, in words; but for the last, without line feeds (own).
use Rattle.std.specs.Prelude.{ℕ, Bool, true, false, ◌==◌, if◌then◌else◌, List, [], ◌∷◌, ◌++◌, Option, Some, None, codes, decimal}
use Rattle.std.specs.List.{flat_map}
use Rattle.cm_text.specs.Hex.{hex_four, hex_two}
use Rattle.cm_nmt.specs.Codes.{specifier_code}
use Rattle.cm_nmt.specs.Frames.{target_byte}
use Rattle.cm_nmt.specs.declared.command.Command.{Command}
use Rattle.cm_nmt.specs.declared.command.Command.TheVariants as command
use Rattle.cm_nmt.specs.declared.frame.Frame.{Frame}
use Rattle.cm_nmt.specs.declared.frame.Target.{Target}
use Rattle.cm_nmt.specs.declared.frame.Target.TheVariants as target
use Rattle.cm_netlist.specs.Network.{Network, is_listed}
use Rattle.cm_can.specs.Emergencies.{words_of}
use Rattle.cm_can.specs.declared.can_error.BusState.{BusState}
use Rattle.cm_can.specs.declared.can_error.BusState.TheVariants as state
use Rattle.cm_can.specs.declared.emergency.Emergency.{Emergency}
use Rattle.cm_telling.specs.declared.bus_told.ErrorNotice.TheVariants as error
use Rattle.cm_telling.specs.declared.notices.Notice.{Notice}
use Rattle.cm_telling.specs.declared.notices.Notice.TheVariants as notice
use Rattle.cm_words.specs.Words.{node_words}

-- bytes in digits, with spaces between them (own)
abbrev pub bytes_words : List ℕ → List ℕ
bytes_words [] = []
bytes_words (b ∷ rest) = hex_two b ++ flat_map (λ x. codes " " ++ hex_two x) rest

-- behind the number of a node that isn't listed (own)
abbrev pub listed_words : Bool → List ℕ
listed_words true = []
listed_words false = codes " (not listed)"

-- an emergency message: its code, and what that says; the error register; the bytes of the manufacturer (CiA 301, emergency object)
abbrev pub emergency_words : Network → ℕ → Emergency → List ℕ
emergency_words net i e =
    codes "node "
    ++ (decimal i
    ++ (listed_words (is_listed net i)
    ++ (codes ": emergency "
    ++ (hex_four e.code
    ++ (codes ", "
    ++ (words_of e.code
    ++ (codes "; error register " ++ (hex_two e.register ++ (codes ", " ++ bytes_words e.specific)))))))))

-- an NMT command, before whom it is for (CiA 301, NMT node control)
abbrev pub command_words : Command → List ℕ
command_words command.Start = codes "start"
command_words command.Stop = codes "stop"
command_words command.EnterPre = codes "enter pre-operational of"
command_words command.ResetNode = codes "reset"
command_words command.ResetComm = codes "reset communication of"

-- whom it is for
abbrev pub target_words : Target → List ℕ
target_words (target.Node i) = codes "node " ++ decimal i
target_words target.All = codes "all nodes"

-- an NMT message: its two bytes, and then in words (CiA 301, NMT node control)
abbrev pub message_words : Frame → List ℕ
message_words m =
    hex_two (specifier_code m.command)
    ++ (codes " "
    ++ (hex_two (target_byte m.target) ++ (codes ", " ++ (command_words m.command ++ (codes " " ++ target_words m.target)))))

-- the state of the CAN controller (ISO 11898-1, fault confinement)
abbrev pub state_words : BusState → List ℕ
state_words state.Active = codes "error active"
state_words state.Warning = codes "error warning"
state_words state.Passive = codes "error passive"
state_words state.Off = codes "off"
state_words state.Restarted = codes "restarted"

-- ---- what was left out

-- messages, so many, behind their number (own)
abbrev pub messages_words : ℕ → List ℕ
messages_words count = if count == 1 then codes "message" else codes "messages"

-- so many emergency messages of a node (own)
abbrev pub emergencies_left_out_words : ℕ → ℕ → List ℕ
emergencies_left_out_words i count =
    node_words i (decimal count ++ (codes " emergency " ++ (messages_words count ++ codes ", left out")))

-- so many messages of other masters (own)
abbrev pub masters_left_out_words : ℕ → List ℕ
masters_left_out_words count =
    codes "another NMT master: " ++ (decimal count ++ (codes " " ++ (messages_words count ++ codes ", left out")))

-- changes of the bus, so many, behind their number (own)
abbrev pub change_words : ℕ → List ℕ
change_words count = if count == 1 then codes "change" else codes "changes"

-- the state of the controller now, if it was said (own)
abbrev pub state_now_words : Option BusState → List ℕ
state_now_words None = []
state_now_words (Some s) = codes "; it is " ++ (state_words s ++ codes " now")

-- so many changes of the bus, and the state of its controller now (own)
abbrev pub bus_left_out_words : ℕ → Option BusState → List ℕ
bus_left_out_words count state =
    codes "bus: " ++ (decimal count ++ (codes " " ++ (change_words count ++ (codes ", left out" ++ state_now_words state))))

-- ---- all of them

-- two devices have this node-ID (own)
abbrev pub doubled_words : ℕ → List ℕ
doubled_words i = node_words i (codes "two devices have this node-ID: their answers to one question differ")

-- what is told (own)
abbrev pub notice_words : Network → Notice → List ℕ
notice_words net (notice.Emergency i e) = emergency_words net i e
notice_words net (notice.EmergenciesLeftOut i count) = emergencies_left_out_words i count
notice_words net (notice.Master m) = codes "another NMT master: " ++ message_words m
notice_words net (notice.MastersLeftOut count) = masters_left_out_words count
notice_words net (notice.Unlisted i) = codes "node " ++ (decimal i ++ codes " isn't listed, and has booted up")
notice_words net (notice.OwnNodeId i) =
    codes "another device has the manager's own node-ID " ++ (decimal i ++ codes ", and has booted up")
notice_words net (notice.Bus error.Unacknowledged) = codes "bus: no other node acknowledges"
notice_words net (notice.Bus (error.State s)) = codes "bus: " ++ state_words s
notice_words net (notice.BusLeftOut count state) = bus_left_out_words count state
notice_words net (notice.Doubled i) = doubled_words i

-- its line, with the line feed, if something is told (own)
abbrev pub notice_line : Network → Option Notice → List ℕ
notice_line net None = []
notice_line net (Some x) = notice_words net x ++ 10 ∷ []
