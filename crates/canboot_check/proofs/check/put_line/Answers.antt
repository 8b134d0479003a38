use Rattle.std.proofs.Common.{append_assoc}
use Rattle.canboot_check.proofs.check.put_line.Goals as goal

pub returns : goal.returns
returns g c = simp append_assoc c.writeln.ensures.bytes
