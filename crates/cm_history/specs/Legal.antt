-- Which histories are legal (own). A history is given with its newest entry first.
use Rattle.std.specs.Prelude.{◌≡◌, ℕ, ◌+◌, ◌<◌, ◌≤◌, List, [], ◌∷◌, length, take, reverse}
use Rattle.cm_nmt.specs.Listing.{Listing}
use Rattle.cm_history.specs.Answering.{answer_of}
use Rattle.cm_history.specs.declared.call.Call.{Call}
use Rattle.cm_history.specs.declared.call.Entry.{Entry}

-- the entry has the reply and the orders that answer its call after what was before it
abbrev pub IsAnswered : Listing → Entry → List Entry → Type 0
IsAnswered net e past = (e.reply, e.orders) ≡ answer_of net past e.call

-- the entry of a call that is made after the history, with its answer
abbrev pub answered : Listing → List Entry → ℕ → Call → Entry
answered net past seat c = record { seat = seat; call = c; reply = (answer_of net past c).0; orders = (answer_of net past c).1 }

-- every entry does
abbrev pub IsLegal : Listing → List Entry → Type 0
IsLegal net [] = Unit {0}
IsLegal net (e ∷ past) = IsAnswered net e past × IsLegal net past

-- of entries whose oldest comes first, those before this place are a legal history, and with the one at it they aren't
pub record IsFirstFault (net : Listing) (entries : List Entry) (place : ℕ) : Type 0 where
  pub inside : place < length entries
  pub before : IsLegal net (reverse (take place entries))
  pub wrong : IsLegal net (reverse (take (place + 1) entries)) → ⊥

-- of entries whose oldest comes first, each is of one of the seats 1 to this number
abbrev pub AreOfSeats : ℕ → List Entry → Type 0
AreOfSeats seats [] = Unit {0}
AreOfSeats seats (e ∷ es) = (0 < e.seat) × (e.seat ≤ seats) × AreOfSeats seats es

-- the greatest number of entries that a history may have (own)
abbrev pub most_entries : ℕ
most_entries = 1048576

-- the whole history of a register, its oldest entry first: legal, of its seats alone, with no more entries than are allowed
pub record IsHistory (net : Listing) (seats limit : ℕ) (entries : List Entry) : Type 0 where
  pub legal : IsLegal net (reverse entries)
  pub seated : AreOfSeats seats entries
  pub few : length entries ≤ limit
