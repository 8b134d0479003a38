-- Emergency messages (CiA 301, emergency object): what a node says of its errors, by itself.
use Rattle.std.specs.Prelude.{◌≡◌, ◌==◌, ◌+◌, ◌*◌, ◌/◌, ℕ, List, ◌∷◌, if◌then◌else◌, codes, length}
use Rattle.cm_nmt.specs.NodeId.{IsNodeId}
use Rattle.cm_can.specs.declared.emergency.Emergency.{Emergency}
use Rattle.cm_can.specs.declared.frame.CanFrame.{CanFrame}
use Rattle.cm_can.specs.Frames.{IsData}

-- an emergency message of the node: identifier 080h + node-ID, and eight bytes: the error code, low byte first, the error register,
-- and five of the manufacturer's
abbrev pub IsEmergency : ℕ → Emergency → CanFrame → Type 0
IsEmergency node e f =
    IsNodeId node
    × (length e.specific ≡ 5)
    × ((low : ℕ) × (high : ℕ) × IsData f (0x0080 + node) (low ∷ high ∷ e.register ∷ e.specific) × (e.code ≡ high * 256 + low))

-- what the codes with this first digit have in common
abbrev pub group_words : ℕ → List ℕ
group_words digit =
    if digit == 0x2 then codes "current"
    else if digit == 0x3 then codes "voltage"
    else if digit == 0x4 then codes "temperature"
    else if digit == 0x5 then codes "device hardware"
    else if digit == 0x6 then codes "device software"
    else if digit == 0x7 then codes "additional modules"
    else if digit == 0x8 then codes "monitoring"
    else codes "an unknown error"

-- what the codes with these first two digits have in common, else those with this first one
abbrev pub class_words : ℕ → List ℕ
class_words class =
    if class == 0x00 then codes "no error, or reset"
    else if class == 0x10 then codes "generic error"
    else if class == 0x21 then codes "current at the device's input"
    else if class == 0x22 then codes "current inside the device"
    else if class == 0x23 then codes "current at the device's output"
    else if class == 0x31 then codes "mains voltage"
    else if class == 0x32 then codes "voltage inside the device"
    else if class == 0x33 then codes "output voltage"
    else if class == 0x41 then codes "ambient temperature"
    else if class == 0x42 then codes "device temperature"
    else if class == 0x61 then codes "internal software"
    else if class == 0x62 then codes "user software"
    else if class == 0x63 then codes "data set"
    else if class == 0x81 then codes "communication"
    else if class == 0x82 then codes "protocol error"
    else if class == 0x90 then codes "external error"
    else if class == 0xF0 then codes "additional functions"
    else if class == 0xFF then codes "device specific"
    else group_words (class / 16)

-- what a code says: its own meaning, else that of its class
abbrev pub words_of : ℕ → List ℕ
words_of code =
    if code == 0x0000 then codes "no error any more"
    else if code == 0x8110 then codes "CAN overrun"
    else if code == 0x8120 then codes "CAN in error passive mode"
    else if code == 0x8130 then codes "life guard error or heartbeat error"
    else if code == 0x8140 then codes "recovered from bus off"
    else if code == 0x8150 then codes "CAN identifier collision"
    else if code == 0x8210 then codes "PDO not processed due to length error"
    else if code == 0x8220 then codes "PDO length exceeded"
    else if code == 0x8230 then codes "multiplexed PDO not processed"
    else if code == 0x8240 then codes "unexpected SYNC data length"
    else if code == 0x8250 then codes "RPDO timeout"
    else class_words (code / 256)
