use Rattle.std.proofs.KnownBytes.{Appends-nil}
use Rattle.canboot_lists.proofs.slave_lines.put_software.Goals as goal

pub returns-then-verifies_software : goal.returns-then-verifies_software
returns-then-verifies_software g c = rw (← c.if-verifies_software.ensures) c.writeln.ensures.bytes

pub returns-else-verifies_software : goal.returns-else-verifies_software
returns-else-verifies_software g c = rw (← c.if-verifies_software.ensures) (Appends-nil (g.W.Write.contents c.args.out.now))
