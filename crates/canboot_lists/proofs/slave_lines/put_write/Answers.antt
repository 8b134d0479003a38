use Rattle.std.proofs.Common.{subst}
use Rattle.std.specs.Io.KnownBytes.{Appends}
use Rattle.cm_text.proofs.Writes.{then_last}
use Rattle.canboot_lists.proofs.slave_lines.put_write.Goals as goal

pub returns : goal.returns
returns g c =
    let hex = subst (Appends (g.W.Write.contents c.write.new.self) (g.W.Write.contents c.write_all.new.self)) c.hex4.ensures c.in_ok-write_all.ensures.bytes in
    then_last _ _ _ _ _ _ c.in_ok-write.ensures.bytes
    (then_last _ _ _ _ _ _ hex
    (then_last _ _ _ _ _ _ c.in_ok-write-2.ensures.bytes (then_last _ _ _ _ _ _ c.in_ok-put_value.ensures c.writeln.ensures.bytes)))
