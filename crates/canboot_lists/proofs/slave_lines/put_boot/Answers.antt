use Rattle.canboot_lists.proofs.slave_lines.put_boot.Goals as goal

pub returns-then-is_to_be_booted : goal.returns-then-is_to_be_booted
returns-then-is_to_be_booted g c = rw (← c.if-is_to_be_booted.ensures) c.put_asked.ensures

pub returns-else-is_to_be_booted : goal.returns-else-is_to_be_booted
returns-else-is_to_be_booted g c = rw (← c.if-is_to_be_booted.ensures) c.writeln.ensures.bytes
