-- What seats are at first (own).
use Rattle.std.specs.Prelude.{ℕ, zero, suc, ◌+◌, List, [], ◌∷◌, ◌++◌}
use Rattle.cm_register.specs.SeatViews.{SeatView}

-- the seat of this number, which has made no call, and has seen and was told nothing
abbrev pub fresh_seat : ℕ → SeatView
fresh_seat n = record { number = n; list = []; capacity = 0; amount = 0; view = []; told = [] }

-- the seats 1 to n in order, which have made no call
abbrev pub fresh_seats : ℕ → List SeatView
fresh_seats zero = []
fresh_seats (suc n) = fresh_seats n ++ fresh_seat (n + 1) ∷ []
