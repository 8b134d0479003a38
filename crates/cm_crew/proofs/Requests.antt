-- A line that asks for a call, where it stands in what is typed.
use Rattle.std.proofs.Common.{◌≡◌, ℕ, List, sym, subst}
use Rattle.std.specs.Prelude.{Option}
use Rattle.cm_history.specs.declared.call.Call.{Call}
use Rattle.cm_receiving.specs.Places.{LineStandsIn}
use Rattle.cm_crew.specs.Typing.{SpellsCall}

-- a line that is read at a place stands there, and asks for what it was read as
pub stands_as : (typed : Option (List ℕ)) (p place : ℕ) (bytes line : List ℕ) (c : Call) → p ≡ place → bytes ≡ line → SpellsCall bytes c → LineStandsIn typed place line
    → (l : List ℕ) × SpellsCall l c × LineStandsIn typed p l
stands_as typed p place bytes line c at is spelled stands = (
  line,
  subst (λ (l : List ℕ). SpellsCall l c) is spelled,
  subst (λ (n : ℕ). LineStandsIn typed n line) (sym at) stands,
)
