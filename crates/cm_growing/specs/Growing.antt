-- What is known where the next entry is added to a history, and what is told then (own).
use Rattle.std.specs.Prelude.{◌≡◌, ◌≤◌, ◌<◌, ◌+◌, ℕ, Bool, length, take, IsFalse, IsTrue}
use mathlib.Core.List.{IsPrefix}
use Rattle.logbook.specs.Pages.{Book}
use Rattle.logbook.specs.declared.tokens.Seen.{Seen}
use Rattle.cm_nmt.specs.Listing.{Listing}
use Rattle.cm_netlist.specs.Network.{Network, listing}
use Rattle.cm_growing.specs.declared.change.Change.{Change}
use Rattle.cm_growing.specs.declared.current.Current.{Current}
use Rattle.cm_growing.specs.declared.log_item.LogItem.{LogItem}
use Rattle.cm_growing.specs.declared.row_rule.RowRule.{RowRule}
use Rattle.cm_growing.specs.Changes.{IsChange}
use Rattle.cm_growing.specs.Items.{IsOf, IsSame, entries_in}
use Rattle.cm_growing.specs.Row.{IsAdded, IsCurrent, IsPending}

-- what was seen of a log: a `SeenLog`, since an alias has no name here
abbrev pub SeenLog : Type 0
SeenLog = Seen LogItem ℕ RowRule

-- what was seen is of the history's own log, the history has so many entries there, and the change is that of the one
-- that is to be the next
pub record IsNext (net : Network) (own : Book) (seen : SeenLog) (d : Change) : Type 0 where
  pub book : seen.book ≡ own
  pub of : IsOf net seen.log
  pub there : d.count ≤ length (entries_in seen.log)
  pub change : IsChange (listing net) (take d.count (entries_in seen.log)) d.entry.now d.node d.value d.own d.own_value

-- the log went on; where the entry was added, the history has it there, and this is current with it; where it wasn't,
-- what was current stays
pub record Adds (net : Listing) (old new : SeenLog) (d : Change) (was now : Current) (is_added : Bool) : Type 0 where
  pub book : new.book ≡ old.book
  pub later : IsPrefix old.log new.log
  pub added : IsTrue is_added → IsAdded new.log d.count d.entry.now
  pub current : IsTrue is_added → IsCurrent net new.log (d.count + 1) now
  pub same : IsFalse is_added → now ≡ was

-- what was seen is of the history's own log, and the change is that of the entry that was added there to so many
pub record IsMoving (net : Network) (own : Book) (seen : SeenLog) (d : Change) : Type 0 where
  pub book : seen.book ≡ own
  pub of : IsOf net seen.log
  pub pending : IsPending (listing net) seen.log d.count d.entry.now
  pub change : IsChange (listing net) (take d.count (entries_in seen.log)) d.entry.now d.node d.value d.own d.own_value

-- the log went on; and where the words were stored, those of all nodes are right with so many entries
pub record Stores (net : Listing) (old new : SeenLog) (count : ℕ) (is_stored : Bool) : Type 0 where
  pub book : new.book ≡ old.book
  pub later : IsPrefix old.log new.log
  pub same : IsTrue is_stored → (t : ℕ) → 1 ≤ t → t < 128 → IsSame net new.log count t
