-- The calls that a seat has made (own).
use Rattle.std.specs.Prelude.{◌≡◌, ◌⊎◌, List, [], ◌∷◌, ◌++◌, map}
use Rattle.cm_history.specs.declared.call.Call.{Call}
use Rattle.cm_register.specs.SeatViews.{SeatView}
use Rattle.cm_register.specs.declared.made.Made.{Made}

-- the calls that a seat has made, the oldest first
abbrev pub calls_made : SeatView → List Call
calls_made s = map (λ (m : Made). m.call) s.list

-- the seat has made just this call more, or none
abbrev pub HasMadeOrNot : Call → SeatView → SeatView → Type 0
HasMadeOrNot c old new = (calls_made new ≡ calls_made old ++ c ∷ []) ⊎ (calls_made new ≡ calls_made old)
