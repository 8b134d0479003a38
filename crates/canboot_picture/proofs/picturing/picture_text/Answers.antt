use Rattle.std.proofs.Common.{inr}
use Rattle.cm_journal.specs.Views.{view}
use Rattle.canboot_journals.proofs.Inputs.{refused_of}
use Rattle.canboot_picture.proofs.Drawable.{few_entries}
use Rattle.canboot_picture.proofs.picturing.picture_text.Goals as goal

pub draw-requires : goal.draw-requires
draw-requires g c = record {
  few = few_entries (view c.in-Ok.journal) _ c.in-Ok.ensures.found.is_text_of;
  legal = c.in-Ok.ensures.found.is_text_of.journal.legal;
}

pub returns-in-Ok-clause-done : goal.returns-in-Ok-clause-done
returns-in-Ok-clause-done g c = λ e. record { journal = view c.in-Ok.journal; read = c.in-Ok.ensures.found; written = c.draw.ensures.done e }

pub returns-in-Ok-clause-failed : goal.returns-in-Ok-clause-failed
returns-in-Ok-clause-failed g c = λ e. inr (view c.in-Ok.journal, c.in-Ok.ensures.found)

pub returns-in-Err-clause-refused : goal.returns-in-Err-clause-refused
returns-in-Err-clause-refused g c = λ e.
    refused_of _ _ _ c.in-Err.unread.fault c.in-Err.ensures.refused (c.refuse_unread.ensures.refused e)
