use Rattle.cm_text.proofs.Writes.{then_last}
use Rattle.canboot_import.proofs.slave_text.put_no_number.Goals as goal

pub returns : goal.returns
returns g c =
    then_last _ _ _ _ _ _ c.in_ok-write.ensures.bytes
    (then_last _ _ _ _ _ _ c.in_ok-write_all.ensures.bytes c.writeln.ensures.bytes)
