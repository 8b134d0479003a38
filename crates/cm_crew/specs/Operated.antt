-- What an operator did in a live run (own).
use Rattle.std.specs.Prelude.{◌≡◌, ◌≢◌, ℕ, List, [], ◌∷◌, ◌++◌, Option, map}
use Rattle.cm_history.specs.declared.call.Call.{Call}
use Rattle.cm_history.specs.declared.call.Entry.{Entry}
use Rattle.cm_register.specs.SeatCalls.{calls_of}
use Rattle.cm_register.specs.SeatViews.{SeatView}
use Rattle.cm_register.specs.declared.made.Made.{Made}
use Rattle.cm_crew.specs.Typing.{AreTyped, BeginsWithStart, BootsAlone, behind_first}

-- the seat is the operator's: its number is 1, its calls begin with the start of the network, which is the first of all, and for each call
-- behind that a line stands in what is typed, behind the one before, up to this place, or it is one that no line asks for
pub record IsOperators (typed : Option (List ℕ)) (s : SeatView) (upto : ℕ) : Type 0 where
  pub number : s.number ≡ 1
  pub started : BeginsWithStart s.list
  pub calls : AreTyped typed (behind_first s.list) 0 upto

-- the last of the seats is this one, of number 1
abbrev pub EndsWith : List SeatView → SeatView → Type 0
EndsWith ss s = (s.number ≡ 1) × (ws : List SeatView) × (ss ≡ ws ++ s ∷ [])

-- the calls of seat 1 in a history, whose oldest entry comes first
abbrev pub operator_calls : List Entry → List Call
operator_calls entries = map (λ (m : Made). m.call) (calls_of entries 1)

-- the last of the seats is the operator's
abbrev pub EndsWithOperator : Option (List ℕ) → List SeatView → Type 0
EndsWithOperator typed ss = (ws : List SeatView) × (s : SeatView) × (upto : ℕ) × (ss ≡ ws ++ s ∷ []) × IsOperators typed s upto

-- a seat but the operator's makes the calls of boots alone
abbrev pub BootsUnlessOperator : SeatView → Type 0
BootsUnlessOperator s = s.number ≢ 1 → BootsAlone s.list

-- in a history, whose oldest entry comes first, the calls of seat 1, the operator's, begin with the start of the network, which is the
-- first entry; for each behind that a line stands in what was typed, behind the line of the one before, that asks for it, or it is a loss, a
-- signal, the time, or wakes a slave; and every other seat makes the calls of boots alone
pub record IsOperatedLive (typed : Option (List ℕ)) (entries : List Entry) : Type 0 where
  pub started : BeginsWithStart (calls_of entries 1)
  pub calls : (upto : ℕ) × AreTyped typed (behind_first (calls_of entries 1)) 0 upto
  pub others : (seat : ℕ) → seat ≢ 1 → BootsAlone (calls_of entries seat)
