-- A journal that was read can be drawn: it has no more entries than a history may have.
use Rattle.std.proofs.Common.{ℕ, ◌≤◌, List, length, arith}
use Rattle.cm_history.specs.Legal.{most_entries}
use Rattle.cm_format.specs.Journals.{IsTextOf}
use Rattle.cm_format.specs.Text.{JournalView, most_entries_of}
use Rattle.cm_format.specs.declared.version.Version.{Version}
use Rattle.cm_format.specs.declared.version.Version.TheVariants.{One, Two}

most_of : (v : Version) → most_entries_of v ≤ most_entries
most_of One = omega arith
most_of Two = omega arith

pub few_entries : (j : JournalView) (text : List ℕ) → IsTextOf j text → length j.entries ≤ most_entries
few_entries j text is = omega (arith, is.journal.fits.few, is.journal.fits.head.limit.1, most_of j.version)
