use Rattle.std.proofs.Common.{inr}
use Rattle.cm_format.specs.Text.{journal_of}
use Rattle.canboot_faults.proofs.OutputStatus.{done_written}
use Rattle.canboot_journals.proofs.Inputs.{refused_of}
use Rattle.canboot_journals.proofs.replay.replay_as.Goals as goal

pub returns-in-Ok-clause-done : goal.returns-in-Ok-clause-done
returns-in-Ok-clause-done g c = λ e.
    let r = c.in-Ok.replayed in
    let found = c.in-Ok.ensures.found in
    record {
      journal = journal_of r.version r.network r.seats r.limit found.entries;
      read = found.input;
      written = done_written c.put_report.result _ c.tell_output.result (c.put_report.ensures found.entries found.replay) c.tell_output.ensures e;
    }

pub returns-in-Ok-clause-failed : goal.returns-in-Ok-clause-failed
returns-in-Ok-clause-failed g c = λ e.
    let r = c.in-Ok.replayed in
    let found = c.in-Ok.ensures.found in
    inr (journal_of r.version r.network r.seats r.limit found.entries, found.input)

pub returns-in-Err-clause-refused : goal.returns-in-Err-clause-refused
returns-in-Err-clause-refused g c = λ e.
    refused_of _ _ _ c.in-Err.fault c.in-Err.ensures.refused (c.refuse_read.ensures.refused e)
