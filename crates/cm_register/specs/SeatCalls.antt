-- The calls of one seat in a history that is given with its oldest entry first (own).
use Rattle.std.specs.Prelude.{ℕ, ◌+◌, ◌==◌, List, [], ◌∷◌, if◌then◌else◌}
use mathlib.Core.List.{IsPrefix}
use Rattle.cm_history.specs.declared.call.Call.{Call}
use Rattle.cm_history.specs.declared.call.Entry.{Entry}
use Rattle.cm_history.specs.declared.call.Reply.{Reply}
use Rattle.cm_register.specs.declared.made.Made.{Made}
use Rattle.cm_register.specs.SeatViews.{SeatView}

-- a call with its place in the history, counted from 1, and its reply
abbrev pub made : ℕ → Call → Reply → Made
made n c r = record { position = n; call = c; reply = r }

-- the calls of this seat among entries that stand behind n others
abbrev pub calls_behind : ℕ → ℕ → List Entry → List Made
calls_behind seat n [] = []
calls_behind seat n (e ∷ es) =
    if e.seat == seat then made (n + 1) e.call e.reply ∷ calls_behind seat (n + 1) es
    else calls_behind seat (n + 1) es

-- the calls of this seat in the history, in order
abbrev pub calls_of : List Entry → ℕ → List Made
calls_of entries seat = calls_behind seat 0 entries

-- the calls that the seat made are, in order, the first of its number in the history: each stands there with the place and
-- the reply that the seat got
abbrev pub HasCallsOf : List Entry → SeatView → Type 0
HasCallsOf entries s = IsPrefix s.list (calls_of entries s.number)
