-- What `canboot picture` does (own).
use Rattle.std.specs.Prelude.{ℕ, List, Option}
use Rattle.cm_format.specs.Text.{JournalView}
use Rattle.canboot_journals.specs.Replay.{IsLegalInput}
use Rattle.canboot_picture.specs.Pictures.{WritesPicture}

-- the input was read to its end, its bytes are the text of a journal whose entries are legal, and just a picture of that history was
-- written
pub record PicturesJournal (input input' output output' : Option (List ℕ)) : Type 0 where
  pub journal : JournalView
  pub read : IsLegalInput input input' journal
  pub written : WritesPicture journal.network journal.entries output output'
