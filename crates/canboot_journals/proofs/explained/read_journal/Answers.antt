use Rattle.cm_journal.specs.Views.{view}
use Rattle.canboot_journals.proofs.Inputs.{input_of}
use Rattle.canboot_journals.proofs.explained.read_journal.Goals as goal

pub returns-in-Ok-journal_read-clause-found : goal.returns-in-Ok-journal_read-clause-found
returns-in-Ok-journal_read-clause-found g c =
    let j = view c.in-Ok-journal_read.journal in
    input_of _ _ _ _ _ j c.in-Ok.ensures c.as_slice.ensures.value c.in-Ok-journal_read.ensures.found
