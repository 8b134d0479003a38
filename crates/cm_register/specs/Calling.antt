-- When a call gets into no history (own).
use Rattle.std.specs.Prelude.{◌≡◌, ◌≢◌, ◌<◌, ◌≤◌, ℕ, List, length, reverse}
use Rattle.cm_nmt.specs.Listing.{Listing}
use Rattle.cm_history.specs.Answering.{answer_of}
use Rattle.cm_history.specs.Legal.{AreOfSeats, IsLegal}
use Rattle.cm_history.specs.OrderFrames.{frames_of}
use Rattle.cm_history.specs.declared.call.Call.{Call}
use Rattle.cm_history.specs.declared.call.Entry.{Entry}
use Rattle.cm_history.specs.declared.call_fault.CallFault.{CallFault}
use Rattle.cm_history.specs.declared.call_fault.CallFault.TheVariants as fault
use Rattle.cm_register.specs.Reads.{IsKnown}
use Rattle.cm_register.specs.SeatCalls.{calls_of}
use Rattle.cm_register.specs.SeatViews.{SeatView}

-- the seat's list isn't as long as its calls in the history are many
abbrev pub IsStale : List Entry → SeatView → Type 0
IsStale history seat = length seat.list ≢ length (calls_of history seat.number)

-- the history has as many entries as are allowed
abbrev pub IsFull : ℕ → List Entry → Type 0
IsFull limit history = length history ≡ limit

-- a wire with this room has none for the frames of the call's orders
abbrev pub LacksRoom : Listing → List Entry → ℕ → Call → Type 0
LacksRoom net history room call = room < length (frames_of net (answer_of net (reverse history) call).1)

-- nothing but memory is in the call's way
pub record MayCall (net : Listing) (limit : ℕ) (history : List Entry) (room : ℕ) (seat : SeatView) (call : Call) : Type 0 where
  pub fresh : IsStale history seat → ⊥
  pub place : IsFull limit history → ⊥
  pub room_there : LacksRoom net history room call → ⊥

-- where each fault comes: the first whose condition holds; want of memory may stand before all of them, and behind them
abbrev pub IsCause : Listing → ℕ → List Entry → ℕ → SeatView → Call → CallFault → Type 0
IsCause net limit history room seat call fault.OutOfMemory = Unit {0}
IsCause net limit history room seat call fault.SeatStale = IsStale history seat
IsCause net limit history room seat call fault.JournalFull = (IsStale history seat → ⊥) × IsFull limit history
IsCause net limit history room seat call fault.WireFull =
    (IsStale history seat → ⊥) × (IsFull limit history → ⊥) × LacksRoom net history room call

-- the call met a history that was legal and within the limit, each entry of one of this many seats, and began with what the
-- seat saw and was told; there was the fault's cause. So WireFull comes only of a call that is answered with frames
pub record HasCallCause (net : Listing) (seats limit : ℕ) (seat : SeatView) (call : Call) (f : CallFault) : Type 0 where
  pub history : List Entry
  pub room : ℕ
  pub legal : IsLegal net (reverse history)
  pub few : length history ≤ limit
  pub seated : AreOfSeats seats history
  pub known : IsKnown history seat
  pub cause : IsCause net limit history room seat call f

-- where each fault of a call comes whose history isn't seen: but for want of memory it had its cause
abbrev pub IsCallCause : Listing → ℕ → ℕ → SeatView → Call → CallFault → Type 0
IsCallCause net seats limit seat call f = f ≢ fault.OutOfMemory → HasCallCause net seats limit seat call f
