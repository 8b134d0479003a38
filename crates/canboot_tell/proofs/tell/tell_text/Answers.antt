use Rattle.std.proofs.Common.{inr}
use Rattle.cm_journal.specs.Views.{view}
use Rattle.canboot_faults.proofs.OutputStatus.{done_written}
use Rattle.canboot_journals.proofs.Inputs.{refused_of}
use Rattle.canboot_tell.proofs.tell.tell_text.Goals as goal

pub put_told-requires : goal.put_told-requires
put_told-requires g c = c.in-Ok.ensures.found.is_text_of.journal.legal

pub returns-in-Ok-clause-done : goal.returns-in-Ok-clause-done
returns-in-Ok-clause-done g c = λ e.
    record {
      journal = view c.in-Ok.journal;
      read = c.in-Ok.ensures.found;
      written = done_written c.put_told.result _ c.output_status.result c.put_told.ensures c.output_status.ensures e;
    }

pub returns-in-Ok-clause-failed : goal.returns-in-Ok-clause-failed
returns-in-Ok-clause-failed g c = λ e. inr (view c.in-Ok.journal, c.in-Ok.ensures.found)

pub returns-in-Err-clause-refused : goal.returns-in-Err-clause-refused
returns-in-Err-clause-refused g c = λ e.
    refused_of _ _ _ c.in-Err.unread.fault c.in-Err.ensures.refused (c.refuse_unread.ensures.refused e)
