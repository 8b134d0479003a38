-- What a seat sees and is told (own). Histories have their oldest entry first.
use Rattle.std.specs.Prelude.{◌≡◌, ◌+◌, ℕ, List, [], ◌∷◌, ◌++◌, length, reverse}
use mathlib.Core.List.{IsPrefix}
use Rattle.cm_nmt.specs.Listing.{Listing}
use Rattle.cm_history.specs.Legal.{IsLegal}
use Rattle.cm_history.specs.declared.call.Call.{Call}
use Rattle.cm_history.specs.declared.call.Entry.{Entry}
use Rattle.cm_history.specs.declared.call.Orders.{Orders}
use Rattle.cm_register.specs.declared.made.Made.{Made}
use Rattle.cm_register.specs.declared.made.Receipt.{Receipt}
use Rattle.cm_register.specs.SeatViews.{SeatView}

-- each of the histories is a beginning of this one
abbrev pub AllBegin : List (List Entry) → List Entry → Type 0
AllBegin [] h = Unit {0}
AllBegin (t ∷ ts) h = IsPrefix t h × AllBegin ts h

-- each of the histories is legal
abbrev pub AllLegal : Listing → List (List Entry) → Type 0
AllLegal net [] = Unit {0}
AllLegal net (t ∷ ts) = IsLegal net (reverse t) × AllLegal net ts

-- the seat has the number, the calls and the share that it had
abbrev pub HasSameCalls : SeatView → SeatView → Type 0
HasSameCalls old new = (new.number ≡ old.number) × (new.list ≡ old.list) × (new.amount ≡ old.amount)

-- the seat is told of its call: what it saw and was told stays, and it is told one history more, which has the call at the
-- place of the receipt as its last entry, with the seat's number and the reply of the receipt
pub record IsToldOf (old new : SeatView) (call : Call) (receipt : Receipt) : Type 0 where
  pub seen : new.view ≡ old.view
  pub before : List Entry
  pub orders : Orders
  pub place : length before + 1 ≡ receipt.position
  pub told : new.told ≡ old.told ++ (before ++ record { seat = old.number; call = call; reply = receipt.reply; orders = orders } ∷ []) ∷ []

-- each of these calls of the seat is told by one of these histories, in order, as its last entry
pub record IsToldBy (number : ℕ) (m : Made) (history : List Entry) : Type 0 where
  pub before : List Entry
  pub orders : Orders
  pub place : length before + 1 ≡ m.position
  pub ends : history ≡ before ++ record { seat = number; call = m.call; reply = m.reply; orders = orders } ∷ []

abbrev pub AreToldBy : ℕ → List Made → List (List Entry) → Type 0
AreToldBy number [] [] = Unit {0}
AreToldBy number (m ∷ ms) (h ∷ hs) = IsToldBy number m h × AreToldBy number ms hs
AreToldBy number _ _ = ⊥

-- the seat made calls and was told of each, and nothing else of it has changed
pub record HasMadeCalls (old new : SeatView) : Type 0 where
  pub number : new.number ≡ old.number
  pub seen : new.view ≡ old.view
  pub calls : List Made
  pub list : new.list ≡ old.list ++ calls
  pub amount : new.amount ≡ old.amount + length calls
  pub histories : List (List Entry)
  pub told : new.told ≡ old.told ++ histories
  pub each : AreToldBy old.number calls histories

-- the history that the seat saw, and those that it was told, are beginnings of this one
abbrev pub IsKnown : List Entry → SeatView → Type 0
IsKnown h s = IsPrefix s.view h × AllBegin s.told h

-- and so it is for every seat
abbrev pub AllKnown : List Entry → List SeatView → Type 0
AllKnown h [] = Unit {0}
AllKnown h (s ∷ ss) = IsKnown h s × AllKnown h ss

-- the history that was told last, or this one where none was
abbrev pub last_told : List Entry → List (List Entry) → List Entry
last_told view [] = view
last_told view (t ∷ ts) = last_told t ts

-- what the seat knows of the history: what it was told last since its last read, or else what it saw then
abbrev pub latest : SeatView → List Entry
latest s = last_told s.view s.told
