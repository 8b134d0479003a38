-- What seats are when they are handed back (own).
use Rattle.std.specs.Prelude.{◌≡◌, ◌≢◌, ◌+◌, ℕ, List, [], ◌∷◌, length, All}
use Rattle.cm_history.specs.declared.call.Entry.{Entry}
use Rattle.cm_register.specs.declared.made.Made.{Made}
use Rattle.cm_register.specs.declared.made.SeatList.{SeatList}
use Rattle.cm_register.specs.SeatCalls.{calls_of}
use Rattle.cm_register.specs.SeatViews.{SeatView}

-- the number and the calls of a list, and those of a seat
abbrev pub calls_in : SeatList → ℕ × List Made
calls_in list = (list.number, list.made.items)

abbrev pub calls_by : SeatView → ℕ × List Made
calls_by seat = (seat.number, seat.list)

-- no number comes twice
abbrev pub AreApart : List SeatView → Type 0
AreApart [] = Unit {0}
AreApart (s ∷ ss) = All (λ (t : SeatView). t.number ≢ s.number) ss × AreApart ss

-- the list of each seat is just that seat's calls in the history
abbrev pub HaveTheirCalls : List Entry → List SeatView → Type 0
HaveTheirCalls entries ss = All (λ (s : SeatView). s.list ≡ calls_of entries s.number) ss

-- how many calls the seats made, all together
abbrev pub count_calls : List SeatView → ℕ
count_calls [] = 0
count_calls (s ∷ ss) = length s.list + count_calls ss
