-- When a register is opened (own).
use Rattle.std.specs.Prelude.{◌≡◌, ◌≤◌, ℕ, List, []}
use Rattle.cm_nmt.specs.declared.frame.Frame.{Frame}
use Rattle.cm_history.specs.Legal.{most_entries}
use Rattle.cm_register.specs.declared.fault.OpenFault.{OpenFault}
use Rattle.cm_register.specs.declared.fault.OpenFault.TheVariants as fault

-- there are 1 to 64 seats
abbrev pub SeatsFit : ℕ → Type 0
SeatsFit seats = (1 ≤ seats) × (seats ≤ 64)

-- 1 to 1,048,576 entries are allowed
abbrev pub LimitFits : ℕ → Type 0
LimitFits limit = (1 ≤ limit) × (limit ≤ most_entries)

-- nothing but memory is in the way
abbrev pub MayOpen : ℕ → ℕ → List Frame → Type 0
MayOpen seats limit sent = SeatsFit seats × LimitFits limit × (sent ≡ [])

-- where each fault comes: the first whose condition holds
abbrev pub IsOpenCause : ℕ → ℕ → List Frame → OpenFault → Type 0
IsOpenCause seats limit sent fault.BadSeats = SeatsFit seats → ⊥
IsOpenCause seats limit sent fault.BadLimit = SeatsFit seats × (LimitFits limit → ⊥)
IsOpenCause seats limit sent fault.WireUsed = SeatsFit seats × LimitFits limit × (sent ≡ [] → ⊥)
IsOpenCause seats limit sent fault.OutOfMemory = MayOpen seats limit sent
IsOpenCause seats limit sent fault.NoReader = ⊥

-- a register isn't named for want of memory alone
abbrev pub IsNameCause : OpenFault → Type 0
IsNameCause fault.OutOfMemory = Unit {0}
IsNameCause _ = ⊥
