-- What a network list comes to, in words (own).
use Rattle.std.specs.Prelude.{ℕ, Bool, true, false, ◌==◌, ◌&&◌, ◌||◌, nat_le, not, if◌then◌else◌, List, [], ◌++◌, codes, decimal, flat_map, length}
use Rattle.std.specs.Option.{option_map_or}
use Rattle.cm_text.specs.Hex.{hex_eight, hex_four}
use Rattle.cm_nmt.specs.Bits.{has_bit}
use Rattle.cm_nmt.specs.Guarding.{guard_time, retry_factor}
use Rattle.cm_nmt.specs.declared.write.Write.{Write}
use Rattle.cm_netlist.specs.Network.{Network, entry, listed_ids}
use Rattle.cm_netlist.specs.declared.entry.SlaveEntry.{SlaveEntry}
use Rattle.cm_netlist.specs.StartWarnings.{ended, given, started_warning, told_warning}
use Rattle.cm_netlist.specs.Warnings.{is_unwatched}
use Rattle.cm_netlist.specs.declared.warning.SlaveWarning.TheVariants as slave
use Rattle.canboot_lists.specs.declared.explaining.ListWarning.{ListWarning}
use Rattle.canboot_lists.specs.declared.explaining.ListWarning.TheVariants as list

-- ---- the manager (CiA 302-2, 1F80h, 1F89h)

-- bit 0
abbrev pub master_words : Bool → List ℕ
master_words true = codes "  it is the NMT master"
master_words false = codes "  it isn't the NMT master, and refuses every call"

-- bit 3, bit 1, bit 2
abbrev pub start_words : Bool → Bool → Bool → List ℕ
start_words true all application = codes "  it starts no slave by itself"
start_words false false application = codes "  it starts each slave once that is booted"
start_words false true false =
    codes "  it starts all slaves at once when every mandatory slave is booted, and later ones once they are booted"
start_words false true true = codes "  it starts a slave that is booted while it is operational itself"

-- bit 2
abbrev pub operational_words : Bool → List ℕ
operational_words true = codes "  it becomes operational when the application asks for it"
operational_words false = codes "  it becomes operational when every mandatory slave is booted"

-- bit 6, bit 4
abbrev pub loss_words : Bool → Bool → List ℕ
loss_words true reset = codes "  where a mandatory slave is lost, it stops all nodes"
loss_words false true = codes "  where a mandatory slave is lost, it resets all nodes"
loss_words false false = codes "  where a mandatory slave is lost, it resets that slave"

-- the boot time, in ms
abbrev pub time_text : ℕ → List ℕ
time_text ms =
    if ms == 0 then ended (codes "  it waits for the mandatory slaves without limit")
    else codes "  it halts the network where a mandatory slave isn't booted after " ++ (decimal ms ++ ended (codes " ms"))

-- what the bits of 1F80h mean
abbrev pub bits_text : ℕ → List ℕ
bits_text startup =
    ended (master_words (has_bit startup 0))
    ++ (ended (start_words (has_bit startup 3) (has_bit startup 1) (has_bit startup 2))
    ++ (ended (operational_words (has_bit startup 2)) ++ ended (loss_words (has_bit startup 6) (has_bit startup 4))))

-- the manager's node-ID and 1F80h
abbrev pub first_text : ℕ → ℕ → List ℕ
first_text own startup = codes "manager " ++ (decimal own ++ (codes ": startup " ++ (hex_eight startup ++ ended [])))

-- the manager
abbrev pub manager_text : Network → List ℕ
manager_text net = first_text net.own net.startup ++ (bits_text net.startup ++ time_text net.boot_time)

-- ---- what a boot of a slave asks, in its order (CiA 302-2, boot slave)

-- 1F81h bit 3, behind the assignment
abbrev pub mandatory_words : Bool → List ℕ
mandatory_words true = codes ", mandatory"
mandatory_words false = codes ", optional"

-- 1F81h bit 4
abbrev pub kept_words : Bool → List ℕ
kept_words true = codes ", kept alive"
kept_words false = []

-- an object with the value that is expected of it, and what another value comes to
abbrev pub compared_text : List ℕ → ℕ → List ℕ → List ℕ
compared_text object value otherwise =
    codes "  asks " ++ (object ++ (codes ": " ++ (hex_eight value ++ (codes ", " ++ ended otherwise))))

-- the device type; 0 isn't compared
abbrev pub device_text : ℕ → List ℕ
device_text value =
    if value == 0 then ended (codes "  asks 1000h, device type: any, no answer is status B")
    else compared_text (codes "1000h, device type") value (codes "no answer is status B, another C")

-- an object of the identity; 0 isn't asked for
abbrev pub identity_text : List ℕ → ℕ → List ℕ → List ℕ
identity_text object value otherwise = if value == 0 then [] else compared_text object value otherwise

-- the state check of a slave that is kept alive, by heartbeat or by a guard request
abbrev pub state_text : SlaveEntry → List ℕ
state_text e =
    given (has_bit e.assignment.0 4)
    (if e.heartbeat_ms == 0 then ended (codes "  asks its state by a guard request, else status F; operational is status L: it stays as it is")
    else ended (codes "  hears its state by a heartbeat, else status E; operational is status L: it stays as it is"))

-- the software version, which is never verified here
abbrev pub software_text : SlaveEntry → List ℕ
software_text e =
    given (has_bit e.assignment.0 5) (ended (codes "  has its software version verified, which can't be done: status G"))

-- the configuration date and time, where both are given
abbrev pub date_text : SlaveEntry → List ℕ
date_text e =
    given (not (e.date == 0) && not (e.time == 0))
    (codes "  asks 1020h, configuration date and time: with "
    ++ (decimal e.date ++ (codes " and " ++ (decimal e.time ++ ended (codes " it is configured and nothing is written")))))

-- from the first index to the last
abbrev pub is_between : ℕ → ℕ → ℕ → Bool
is_between first last index = nat_le first index && nat_le index last

-- the object is a COB-ID: of SYNC, TIME and EMCY, of an SDO, of a PDO (CiA 301, 1005h, 1012h, 1014h, 1200h to 12FFh sub 1 and 2, 1400h to
-- 15FFh and 1800h to 19FFh sub 1)
abbrev pub is_cob_id : ℕ → ℕ → Bool
is_cob_id index sub =
    (sub == 0 && (index == 0x1005 || (index == 0x1012 || index == 0x1014)))
    || ((is_between 0x1200 0x12FF index && (sub == 1 || sub == 2))
    || (sub == 1 && (is_between 0x1400 0x15FF index || is_between 0x1800 0x19FF index)))

-- the object is what a PDO carries (CiA 301, 1600h to 17FFh and 1A00h to 1BFFh from sub 1 on)
abbrev pub is_mapping : ℕ → ℕ → Bool
is_mapping index sub = not (sub == 0) && (is_between 0x1600 0x17FF index || is_between 0x1A00 0x1BFF index)

-- the value of a write: a COB-ID, and what a PDO carries, in hexadecimal
abbrev pub value_text : Write → List ℕ
value_text w =
    if is_cob_id w.index w.sub || is_mapping w.index w.sub then hex_eight w.value ++ codes "h"
    else decimal w.value

-- the sub-index behind an index
abbrev pub sub_text : ℕ → List ℕ
sub_text sub = codes "h sub " ++ (decimal sub ++ codes ": ")

-- a write
abbrev pub write_text : Write → List ℕ
write_text w =
    codes "  writes "
    ++ (hex_four w.index
    ++ (sub_text w.sub
    ++ (value_text w ++ (codes ", bytes " ++ (decimal w.size ++ ended (codes ", else status J"))))))

-- the first heartbeat, where one has to come, and what the boot ends with else
abbrev pub end_text : SlaveEntry → List ℕ
end_text e =
    if e.heartbeat_ms == 0 then ended (codes "  all as expected is status Ok")
    else codes "  waits for a heartbeat, "
    ++ (decimal e.heartbeat_ms ++ (ended (codes " ms, else status K") ++ ended (codes "  all as expected is status Ok")))

-- the identity
abbrev pub identities_text : SlaveEntry → List ℕ
identities_text e =
    identity_text (codes "1018h sub 1, vendor-ID") e.vendor (codes "else status D")
    ++ (identity_text (codes "1018h sub 2, product code") e.product (codes "else status M")
    ++ (identity_text (codes "1018h sub 3, revision number") e.revision (codes "else status N")
    ++ identity_text (codes "1018h sub 4, serial number") e.serial (codes "else status O")))

-- all that a boot asks where 1F81h bit 2 is set
abbrev pub asked_text : SlaveEntry → List ℕ
asked_text e =
    device_text e.device_type
    ++ (identities_text e ++ (state_text e ++ (software_text e ++ (date_text e ++ flat_map write_text e.writes.items))))

-- what a boot asks before the heartbeat
abbrev pub boot_text : SlaveEntry → List ℕ
boot_text e =
    if has_bit e.assignment.0 2 then asked_text e
    else ended (codes "  isn't asked what it is, and nothing is written: bit 2 is clear")

-- ---- a slave

-- it is guarded: so often, and so many times without an answer
abbrev pub guard_text : ℕ → ℕ → List ℕ
guard_text ms times =
    codes "  booted, it is asked for its state each "
    ++ (decimal ms ++ (codes " ms, and lost after " ++ (decimal times ++ ended (codes " times without an answer"))))

-- its heartbeat is awaited
abbrev pub heartbeat_text : ℕ → List ℕ
heartbeat_text ms = codes "  booted, it is lost after " ++ (decimal ms ++ ended (codes " ms without a heartbeat"))

-- who notices that it is gone
abbrev pub watch_text : SlaveEntry → List ℕ
watch_text e =
    if is_unwatched e then ended (codes "  booted, nobody watches it")
    else if e.heartbeat_ms == 0 then guard_text (guard_time e.assignment.0) (retry_factor e.assignment.0)
    else heartbeat_text e.heartbeat_ms

-- a slave's node-ID and 1F81h
abbrev pub heading_text : ℕ → ℕ → List ℕ
heading_text i assignment =
    codes "slave "
    ++ (decimal i
    ++ (codes ": assignment "
    ++ (hex_eight assignment ++ (mandatory_words (has_bit assignment 3) ++ ended (kept_words (has_bit assignment 4))))))

-- a slave: its node-ID, 1F81h, what a boot asks of it, and who notices that it is gone
abbrev pub slave_text : ℕ → SlaveEntry → List ℕ
slave_text i e = heading_text i e.assignment.0 ++ (boot_text e ++ (end_text e ++ watch_text e))

-- ---- warnings

-- each warning of a slave
abbrev pub slave_warnings : ℕ → ℕ → SlaveEntry → List ℕ
slave_warnings startup i e =
    told_warning [] i e slave.Unchecked
    ++ (told_warning [] i e slave.Unwatched
    ++ (told_warning [] i e slave.Silent ++ (told_warning [] i e slave.UnusedBits ++ started_warning [] startup i e)))

-- the list is warned of for this: it has no slave, or 1F80h bit 0 is clear, so that every call is refused (CiA 302-2, NMT startup)
abbrev pub is_list_warned : Network → ListWarning → Bool
is_list_warned net list.NoSlave = length (listed_ids net) == 0
is_list_warned net list.NotMaster = not (has_bit net.startup 0)

-- each warning of a list
abbrev pub list_warnings : Network → List ℕ
list_warnings net =
    given (is_list_warned net list.NoSlave) (ended (codes "warning: no slave is listed"))
    ++ given (is_list_warned net list.NotMaster)
    (ended (codes "warning: bit 0 of startup is clear: this device isn't the NMT master, and every call is refused"))

-- ---- the list

-- what is said of a node that is listed
abbrev pub slave_text_of : Network → ℕ → List ℕ
slave_text_of net i = option_map_or (slave_text i) (entry net i) []

-- what a node that is listed is warned of
abbrev pub slave_warnings_of : Network → ℕ → List ℕ
slave_warnings_of net i = option_map_or (slave_warnings net.startup i) (entry net i) []

-- the manager, each slave in rising node-ID, and what the list and each slave are warned of
abbrev pub explained : Network → List ℕ
explained net =
    manager_text net
    ++ (flat_map (slave_text_of net) (listed_ids net)
    ++ (list_warnings net ++ flat_map (slave_warnings_of net) (listed_ids net)))
