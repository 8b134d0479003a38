-- What SDO abort codes say (CiA 301, SDO abort codes), behind a colon; of any other code nothing.
use Rattle.std.specs.Prelude.{ℕ, ◌==◌, if◌then◌else◌, List, [], codes}

-- those of the device
abbrev pub device_words : ℕ → List ℕ
device_words code =
    if code == 0x08000000 then codes ": general error"
    else if code == 0x08000020 then codes ": data cannot be transferred or stored to the application"
    else if code == 0x08000021 then codes ": data cannot be transferred or stored to the application because of local control"
    else if code == 0x08000022 then codes ": data cannot be transferred or stored to the application because of the present device state"
    else if code == 0x08000023 then codes ": object dictionary dynamic generation fails or no object dictionary is present"
    else if code == 0x08000024 then codes ": no data available"
    else []

-- those of a value, and of the device
abbrev pub value_words : ℕ → List ℕ
value_words code =
    if code == 0x06070010 then codes ": data type does not match, length of service parameter does not match"
    else if code == 0x06070012 then codes ": data type does not match, length of service parameter too high"
    else if code == 0x06070013 then codes ": data type does not match, length of service parameter too low"
    else if code == 0x06090011 then codes ": sub-index does not exist"
    else if code == 0x06090030 then codes ": invalid value for parameter"
    else if code == 0x06090031 then codes ": value of parameter written too high"
    else if code == 0x06090032 then codes ": value of parameter written too low"
    else if code == 0x06090036 then codes ": maximum value is less than minimum value"
    else if code == 0x060A0023 then codes ": resource not available: SDO connection"
    else device_words code

-- those of access and mapping, and of a value and of the device
abbrev pub access_words : ℕ → List ℕ
access_words code =
    if code == 0x06010000 then codes ": unsupported access to an object"
    else if code == 0x06010001 then codes ": attempt to read a write only object"
    else if code == 0x06010002 then codes ": attempt to write a read only object"
    else if code == 0x06020000 then codes ": object does not exist in the object dictionary"
    else if code == 0x06040041 then codes ": object cannot be mapped to the PDO"
    else if code == 0x06040042 then codes ": the number and length of the objects to be mapped would exceed PDO length"
    else if code == 0x06040043 then codes ": general parameter incompatibility reason"
    else if code == 0x06040047 then codes ": general internal incompatibility in the device"
    else if code == 0x06060000 then codes ": access failed due to a hardware error"
    else value_words code

-- any code
abbrev pub abort_words : ℕ → List ℕ
abort_words code =
    if code == 0x05030000 then codes ": toggle bit not alternated"
    else if code == 0x05040000 then codes ": SDO protocol timed out"
    else if code == 0x05040001 then codes ": client or server command specifier not valid or unknown"
    else if code == 0x05040002 then codes ": invalid block size"
    else if code == 0x05040003 then codes ": invalid sequence number"
    else if code == 0x05040004 then codes ": CRC error"
    else if code == 0x05040005 then codes ": out of memory"
    else access_words code
