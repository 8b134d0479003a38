-- What is told of what a bus says beside the answers and the states of slaves (own; what is said is of CiA 301 and of Linux).
use Rattle.std.specs.Prelude.{ℕ, ◌%◌, ◌==◌, ◌||◌, ◌&&◌, Bool, true, false, not, if◌then◌else◌, slice_index_or}
use Rattle.std.specs.Prelude.{Option, Some, None, is_some, option_map}
use Rattle.cm_can.specs.declared.can_error.BusState.{BusState}
use Rattle.cm_can.specs.declared.can_error.CanError.{CanError}
use Rattle.cm_can.specs.declared.remark.Remark.{Remark}
use Rattle.cm_can.specs.declared.remark.Remark.TheVariants as remark
use Rattle.cm_netlist.specs.Network.{Network, is_listed}
use Rattle.cm_telling.specs.BusErrors.{behind_error, error_notice}
use Rattle.cm_telling.specs.Echoes.{behind_heard, is_ours}
use Rattle.cm_telling.specs.Limiting.{behind_message, is_told, left_out_now, none_told}
use Rattle.cm_telling.specs.declared.bus_told.BusTold.{BusTold}
use Rattle.cm_telling.specs.declared.bus_told.ErrorNotice.{ErrorNotice}
use Rattle.cm_telling.specs.declared.limit.Limit.{Limit}
use Rattle.cm_telling.specs.declared.notices.Notice.{Notice}
use Rattle.cm_telling.specs.declared.notices.Notice.TheVariants as notice
use Rattle.cm_telling.specs.declared.notices.Notices.{Notices}

-- ---- what is kept

-- the limit at a place: 0 is that of other masters, i that of node i, 128 that of the bus
abbrev pub limit_at : Notices → ℕ → Limit
limit_at n i = slice_index_or n.limits i none_told

-- it was told of i that it isn't listed, or that another device has its node-ID
abbrev pub is_stranger_told : Notices → ℕ → Bool
is_stranger_told n i = slice_index_or n.strangers i false

-- the first of two where the places are the same
abbrev pub if_place : {A : Type 0} → ℕ → ℕ → A → A → A
if_place place i here other = if place == i then here else other

-- ---- what is told

-- the notice, if it is told
abbrev pub notice_if : Bool → Notice → Option Notice
notice_if told x = if told then Some x else None

-- the boot-up message of i is our own, which was sent once and comes back
abbrev pub is_own_back : Notices → Network → ℕ → Bool
is_own_back n net i = (i == net.own) && n.is_own_out

-- the boot-up message of i is that of a device that isn't listed, or has our own node-ID
abbrev pub is_stranger : Notices → Network → ℕ → Bool
is_stranger n net i = not (is_own_back n net i || is_listed net i)

-- what is told of i when it boots up, if it wasn't before
abbrev pub boot_up_notice : Notices → Network → ℕ → Option Notice
boot_up_notice n net i =
    notice_if (is_stranger n net i && not (is_stranger_told n i)) (if i == net.own then notice.OwnNodeId i else notice.Unlisted i)

-- what is told where two devices have the node-ID i, if nothing was told of it before
abbrev pub double_notice : Notices → ℕ → Option Notice
double_notice n i = notice_if (not (is_stranger_told n i)) (notice.Doubled i)

-- what is told of an error of the bus: a change of it, within the limit of the bus
abbrev pub error_told : Notices → ℕ → CanError → Option ErrorNotice
error_told n now e = if is_told (limit_at n 128) now then error_notice n.bus e else None

-- an emergency message within the limit of its node; a boot-up message of a node that isn't listed, or of another device with the
-- manager's own node-ID, once; an NMT message that isn't
-- one of ours come back, within the limit of other masters; an error of the bus, once until it changes, within the limit of the bus;
-- that two devices have a node-ID, once
abbrev pub notice_by : Notices → Network → ℕ → Remark → Option Notice
notice_by n net now (remark.Emergency i e) = notice_if (is_told (limit_at n i) now) (notice.Emergency i e)
notice_by n net now (remark.BootUp i) = boot_up_notice n net i
notice_by n net now (remark.Message m) = notice_if (not (is_ours n.sent m) && is_told (limit_at n 0) now) (notice.Master m)
notice_by n net now (remark.Error e) = option_map (λ x. notice.Bus x) (error_told n now e)
notice_by n net now (remark.Doubled i) = double_notice n i

-- how many were left out, of a node or of the bus, whose controller is in this state now
abbrev pub left_out_behind : ℕ → ℕ → Option BusState → Notice
left_out_behind place count state =
    if place == 128 then notice.BusLeftOut count state else notice.EmergenciesLeftOut place count

-- how many were left out, of other masters, of a node or of the bus
abbrev pub left_out_notice : ℕ → ℕ → Option BusState → Notice
left_out_notice place count state = if place == 0 then notice.MastersLeftOut count else left_out_behind place count state

-- the place of the limit that a turn looks at
abbrev pub place_of_turn : Notices → ℕ
place_of_turn n = n.next % 129

-- what a turn tells of that limit
abbrev pub left_out_by : Notices → ℕ → Option Notice
left_out_by n now =
    option_map (λ count. left_out_notice (place_of_turn n) count n.bus.state) (left_out_now (limit_at n (place_of_turn n)) now)

-- ---- what is kept behind it

-- the limit at place i behind an error of the bus, which counts where it is a change
abbrev pub limit_behind_error : Notices → CanError → ℕ → ℕ → Limit → Limit
limit_behind_error n e now i l = if is_some (error_notice n.bus e) then if_place 128 i (behind_message l now) l else l

-- the limit at place i behind a remark
abbrev pub limit_by : Notices → Remark → ℕ → ℕ → Limit → Limit
limit_by n (remark.Emergency j e) now i l = if_place j i (behind_message l now) l
limit_by n (remark.Message m) now i l = if is_ours n.sent m then l else if_place 0 i (behind_message l now) l
limit_by n (remark.Error e) now i l = limit_behind_error n e now i l
limit_by n r now i l = l

-- how often the message of place k was sent and hasn't come back
abbrev pub count_by : Remark → ℕ → ℕ → ℕ
count_by (remark.Message m) k count = behind_heard m k count
count_by r k count = count

-- whether it was told of i that it isn't listed, where j boots up
abbrev pub stranger_by : Notices → Network → ℕ → ℕ → Bool → Bool
stranger_by n net j i told = if j == i && is_stranger n net i then true else told

-- whether something was told of i, where two devices have the node-ID j
abbrev pub double_by : ℕ → ℕ → Bool → Bool
double_by j i told = if j == i then true else told

abbrev pub strangers_by : Notices → Network → Remark → ℕ → Bool → Bool
strangers_by n net (remark.BootUp j) i told = stranger_by n net j i told
strangers_by n net (remark.Doubled j) i told = double_by j i told
strangers_by n net r i told = told

-- whether our own boot-up message was sent and hasn't come back, where j boots up
abbrev pub own_out_behind : Network → ℕ → Bool → Bool
own_out_behind net j out = out && not (j == net.own)

abbrev pub own_out_by : Network → Remark → Bool → Bool
own_out_by net (remark.BootUp j) out = own_out_behind net j out
own_out_by net r out = out

-- what was said of the bus
abbrev pub bus_by : Remark → BusTold → BusTold
bus_by (remark.Error e) b = behind_error b e
bus_by r b = b
