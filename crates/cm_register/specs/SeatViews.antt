-- What a contract sees of a seat (own).
use Rattle.std.specs.Prelude.{ℕ, List}
use Rattle.cm_history.specs.declared.call.Entry.{Entry}
use Rattle.cm_register.specs.declared.made.Made.{Made}

-- a seat: its number, the calls that it made, in order, for how many calls it has memory, and the amount of its share of the
-- ledger; the history that it saw in its last read, and those that it was told by its calls since, one for each; histories
-- have their oldest entry first
pub record SeatView : Type 0 where
  pub number : ℕ
  pub list : List Made
  pub capacity : ℕ
  pub amount : ℕ
  pub view : List Entry
  pub told : List (List Entry)
