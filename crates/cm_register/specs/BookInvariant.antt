-- Working definitions, behind the contracts of `Book`: what the type of a book keeps.
use Rattle.std.specs.Prelude.{◌≡◌, ◌+◌, ◌<◌, ◌≤◌, ℕ, List, length, reverse}
use Rattle.std.specs.List.{slice_index_or}
use Rattle.cm_nmt.specs.declared.frame.Frame.{Frame}
use Rattle.cm_netlist.specs.Network.{Network, listing}
use Rattle.cm_history.specs.OrderFrames.{frames_in}
use Rattle.cm_history.specs.Legal.{AreOfSeats, IsLegal, most_entries}
use Rattle.cm_history.specs.declared.call.Entry.{Entry}
use Rattle.cm_register.specs.Handing.{AreApart}
use Rattle.cm_register.specs.Knowing.{AllHaveCallsOf}
use Rattle.cm_register.specs.Reads.{AllKnown}
use Rattle.cm_register.specs.SeatCalls.{calls_of}
use Rattle.cm_register.specs.SeatViews.{SeatView}

-- how many entries each seat has: place k counts those of seat k + 1
abbrev pub AreCounts : List ℕ → List Entry → Type 0
AreCounts counts entries = (k : ℕ) → k < 64 → slice_index_or counts k 0 ≡ length (calls_of entries (k + 1))

-- the history is legal, and the frames sent are its frames; it has at most as many entries as
-- are allowed, and room for them; it has as many as the ledger's total, each of one of the seats, whose entries are counted
pub record IsBookKept (net : Network) (seats limit : ℕ) (history : List Entry) (capacity : ℕ) (counts : List ℕ)
    (sent : List Frame) (total : ℕ) : Type 0 where
  pub legal : IsLegal (listing net) (reverse history)
  pub frames : sent ≡ frames_in (listing net) history
  pub few : length history ≤ limit
  pub room : limit ≤ capacity
  pub small : limit ≤ most_entries
  pub tallied : total ≡ length history
  pub wide : length counts ≡ 64
  pub counted : AreCounts counts history
  pub seated : AreOfSeats seats history

-- nothing is in the way of closing a book with these entries: no seat is missing, no number comes twice, and what each knows
-- is of the history, so that its calls are the first of its number there
pub record MayClose (entries : List Entry) (seats : ℕ) (given : List SeatView) : Type 0 where
  pub all : seats ≤ length given
  pub apart : AreApart given
  pub known : AllKnown entries given
  pub calls : AllHaveCallsOf entries given
