-- Working definitions, behind the contracts of `Seat`: what a seat has of the histories that it knows. It has the longest
-- one alone; what it saw, and what it was told by a call, are that one's first entries.
use Rattle.std.specs.Prelude.{◌≡◌, ◌≤◌, ℕ, List, [], ◌∷◌, ◌++◌, length, map, take, drop}
use mathlib.Core.List.{IsPrefix}
use Rattle.cm_history.specs.declared.call.Entry.{Entry}
use Rattle.cm_register.specs.declared.made.Made.{Made}
use Rattle.cm_register.specs.SeatCalls.{HasCallsOf, calls_of}
use Rattle.cm_register.specs.SeatViews.{SeatView}

-- the histories that these calls told, of one that has them all
abbrev pub told_by : List Entry → List Made → List (List Entry)
told_by known list = map (λ (m : Made). take m.position known) list

abbrev pub seat_view : ℕ → List Made → ℕ → ℕ → List Entry → ℕ → ℕ → SeatView
seat_view number list capacity amount known viewed called =
    record {
      number = number;
      list = list;
      capacity = capacity;
      amount = amount;
      view = take viewed known;
      told = told_by known (drop called list);
    }

-- no place is behind the first n
abbrev pub ArePlaced : List Made → ℕ → Type 0
ArePlaced [] n = Unit {0}
ArePlaced (m ∷ ms) n = (m.position ≤ n) × ArePlaced ms n

-- the longest history is as long as what was seen, and has the place of each call; the calls are its first ones of this
-- number, and those before the last read were seen in it
pub record IsKnowing (number : ℕ) (list : List Made) (known : List Entry) (viewed called : ℕ) : Type 0 where
  pub seen : viewed ≤ length known
  pub since : called ≤ length list
  pub placed : ArePlaced list (length known)
  pub calls : IsPrefix list (calls_of known number)
  pub shown : IsPrefix (take called list) (calls_of (take viewed known) number)

-- the entry is the last one of the history, and the next call of the seat, which has made as many as there are before it
pub record IsNextCall (seat : SeatView) (entry : Entry) (history : List Entry) : Type 0 where
  pub before : List Entry
  pub longer : history ≡ before ++ entry ∷ []
  pub its : entry.seat ≡ seat.number
  pub fresh : length seat.list ≡ length (calls_of before seat.number)

-- the lists of all seats are beginnings of their calls in the history
abbrev pub AllHaveCallsOf : List Entry → List SeatView → Type 0
AllHaveCallsOf h [] = Unit {0}
AllHaveCallsOf h (s ∷ ss) = HasCallsOf h s × AllHaveCallsOf h ss
