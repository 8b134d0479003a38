-- What `canboot tell` does (own).
use Rattle.std.specs.Prelude.{ℕ, List, Option, reverse}
use Rattle.std.specs.Io.KnownBytes.{Appends}
use Rattle.cm_format.specs.Text.{JournalView}
use Rattle.canboot_journals.specs.Replay.{IsLegalInput}
use Rattle.canboot_tell.specs.ToldHistory.{history_told}

-- the input was read to its end, its bytes are the text of a journal whose entries are legal, and just that history was written in
-- words, or the calls of this node
pub record TellsJournal (node : Option ℕ) (input input' output output' : Option (List ℕ)) : Type 0 where
  pub journal : JournalView
  pub read : IsLegalInput input input' journal
  pub written : Appends output output' (history_told journal.network node (reverse journal.entries))
