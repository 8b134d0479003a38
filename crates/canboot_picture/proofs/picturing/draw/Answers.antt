use Rattle.std.proofs.Common.{List, subst}
use Rattle.canboot_faults.proofs.OutputStatus.{done_written}
use Rattle.cm_history.specs.declared.call.Entry.{Entry}
use Rattle.canboot_picture.specs.Pictures.{WritesPicture}
use Rattle.canboot_picture.proofs.picturing.draw.Goals as goal

pub returns-in-Ok-clause-done : goal.returns-in-Ok-clause-done
returns-in-Ok-clause-done g c = λ e.
    subst (λ (entries : List Entry). WritesPicture c.args.journal.now.network entries (g.W.Write.contents c.args.out.now) (g.W.Write.contents c.put_drawn-written.new.out))
    c.as_slice.ensures.value
    (done_written c.put_drawn-written.result _ c.output_status.result (c.put_drawn-written.ensures _ c.in-Ok.ensures) c.output_status.ensures e)
