use Rattle.std.proofs.Common.{◌++◌, subst}
use Rattle.std.specs.Prelude.{codes}
use Rattle.std.specs.Io.KnownBytes.{Appends}
use Rattle.cm_text.proofs.Writes.{then_last}
use Rattle.canboot_lists.proofs.Words.{then_words}
use Rattle.canboot_lists.proofs.slave_lines.put_compared.Goals as goal

pub returns : goal.returns
returns g c =
    let hex = subst (Appends (g.W.Write.contents c.write.new.self) (g.W.Write.contents c.write_all.new.self)) c.hex8.ensures c.in_ok-write_all.ensures.bytes in
    then_words _ _ _ _ (codes "  asks " ++ c.args.object.now) (codes ": ") _ c.in_ok-write.ensures.bytes
    (then_last _ _ _ _ _ _ hex c.writeln.ensures.bytes)
