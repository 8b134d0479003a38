use Rattle.canboot_import.proofs.Told.{told_lines}
use Rattle.canboot_import.proofs.made.told_of.Goals as goal

pub returns : goal.returns
returns c =
    told_lines c.args.slave.now.identity c.new-told.result.items c.put_uncompared.new.out.items c.write_all.new.self.items c.as_slice.result.now
    c.new-told.ensures.items c.in_ok-put_uncompared.ensures c.in_ok-write_all.ensures.bytes
