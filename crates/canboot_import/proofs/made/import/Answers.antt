use Rattle.std.proofs.Common.{sym, subst}
use Rattle.cm_device.specs.FileLines.{AreAllOf, AreOf}
use Rattle.canboot_import.proofs.Given.{imported}
use Rattle.canboot_import.proofs.made.import.Goals as goal

pub returns-in_ok-slave-in-Ok : goal.returns-in_ok-slave-in-Ok
returns-in_ok-slave-in-Ok c =
    let file = c.args.file.now in
    let slave = c.in_ok-slave-in-Ok.slave in
    let items = subst (AreOf file) (sym c.as_slice.ensures.value) c.in-Ok.ensures.items in
    let all = subst (AreAllOf file) (sym c.as_slice.ensures.value) c.in-Ok.ensures.all in
    imported c.text_of.result file c.args.words slave.id slave.entry slave.identity (c.in_ok-slave-in-Ok.ensures file items all) c.text_of.ensures.list
    c.text_of.ensures.told
