-- What is handed in where a register closes, and why it doesn't (own).
use Rattle.std.specs.Prelude.{◌≡◌, ◌+◌, ◌<◌, ◌≤◌, ℕ, List, length, map, reverse}
use Rattle.cm_nmt.specs.declared.frame.Frame.{Frame}
use Rattle.cm_netlist.specs.Network.{Network, listing}
use Rattle.cm_history.specs.Legal.{AreOfSeats, IsLegal}
use Rattle.cm_history.specs.OrderFrames.{frames_in}
use Rattle.cm_sequential.specs.Standing.{Stands}
use Rattle.cm_register.specs.Handing.{AreApart, HaveTheirCalls, calls_by, calls_in, count_calls}
use Rattle.cm_register.specs.Reads.{AllKnown}
use Rattle.cm_register.specs.SeatViews.{SeatView}
use Rattle.cm_register.specs.declared.closing.Closed.{Closed}
use Rattle.cm_register.specs.declared.closing.CloseKind.{CloseKind}
use Rattle.cm_register.specs.declared.closing.CloseKind.TheVariants as kind

-- what closing with these seats leaves: a legal history within the limit, of just these seats' calls; all seats that were
-- made; the seats' lists; the wire, on which the history's frames were sent; and the manager that stands for the history
pub record IsClosed {W : Type 0} (sent : W → List Frame) (net : Network) (made limit : ℕ) (given : List SeatView)
    (closed : Closed W) : Type 0 where
  pub legal : IsLegal (listing net) (reverse closed.history.items)
  pub few : length closed.history.items ≤ limit
  pub seated : AreOfSeats made closed.history.items
  pub seats : length given ≡ made
  pub apart : AreApart given
  pub calls : HaveTheirCalls closed.history.items given
  pub total : count_calls given ≡ length closed.history.items
  pub known : AllKnown closed.history.items given
  pub lists : map calls_in closed.lists.items ≡ map calls_by given
  pub frames : sent closed.wire ≡ frames_in (listing net) closed.history.items
  pub stands : Stands closed.manager net (reverse closed.history.items)

-- the number of a fault
abbrev pub close_number : CloseKind → ℕ
close_number (kind.SeatsMissing n) = 1
close_number kind.SeatDiffers = 2
close_number kind.NoVersion = 3

-- where a book isn't closed: n seats of this many are missing; or none is, and what one knows isn't found to be of the
-- history, or a number comes twice
abbrev pub IsCloseCause : ℕ → List SeatView → CloseKind → Type 0
IsCloseCause seats given (kind.SeatsMissing n) = (0 < n) × (length given + n ≡ seats)
IsCloseCause seats given kind.NoVersion = seats ≤ length given
IsCloseCause seats given kind.SeatDiffers = (seats ≤ length given) × (AreApart given → ⊥)
