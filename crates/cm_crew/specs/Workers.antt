-- Which worker boots which slave (own).
use Rattle.std.specs.Prelude.{◌≡◌, ◌+◌, ◌-◌, ℕ, List, All, Option, Some, option_map}
use Rattle.cm_history.specs.declared.call.Call.{Call}
use Rattle.cm_history.specs.declared.call.Call.TheVariants as call
use Rattle.cm_history.specs.declared.call.Entry.{Entry}
use Rattle.cm_netlist.specs.Network.{Network, listed_ids}
use Rattle.cm_netlist.specs.Workers.{worker_of}
use Rattle.cm_register.specs.declared.made.Made.{Made}

-- of so many seats, the one of the worker that boots slave i: the operator has seat 1, the workers have the others in their order
abbrev pub seat_of : Network → ℕ → ℕ → Option ℕ
seat_of net seats i = option_map (λ worker. worker + 2) (worker_of (listed_ids net) (seats - 1) i)

-- a report on a slave is made by the seat of the slave's worker; any other call says nothing
abbrev pub IsOfItsSeat : Network → ℕ → ℕ → Call → Type 0
IsOfItsSeat net seats seat (call.Report i n a) = seat_of net seats i ≡ Some seat
IsOfItsSeat net seats seat _ = Unit {0}

-- and so for each call of a seat's list
abbrev pub AreOfItsSeat : Network → ℕ → ℕ → List Made → Type 0
AreOfItsSeat net seats seat list = All (λ (m : Made). IsOfItsSeat net seats seat m.call) list

-- and so for each entry of a history
abbrev pub AreOfTheirSeats : Network → ℕ → List Entry → Type 0
AreOfTheirSeats net seats entries = All (λ (e : Entry). IsOfItsSeat net seats e.seat e.call) entries
