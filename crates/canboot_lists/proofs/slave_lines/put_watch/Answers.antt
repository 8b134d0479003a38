use Rattle.std.proofs.Common.{◌≡◌, ◌==◌, false}
use Rattle.std.proofs.lemmas.Bool.{ne_eqb}
use Rattle.canboot_lists.proofs.slave_lines.put_watch.Goals as goal

pub returns-then-slave_is_warned : goal.returns-then-slave_is_warned
returns-then-slave_is_warned g c = rw (← c.if-slave_is_warned.ensures) c.writeln.ensures.bytes

pub returns-then-entry-eq0 : goal.returns-then-entry-eq0
returns-then-entry-eq0 g c = rw (← c.if-slave_is_warned.ensures, c.if-entry-eq0.true, ← c.guard_time_ms.ensures, ← c.retry_factor.ensures) c.put_guard.ensures

pub returns-else-entry-eq0 : goal.returns-else-entry-eq0
returns-else-entry-eq0 g c =
    let some : (c.args.entry.now.heartbeat_ms == 0) ≡ false = ne_eqb c.args.entry.now.heartbeat_ms 0 c.if-entry-eq0.false in
    rw (← c.if-slave_is_warned.ensures, some) c.put_heartbeat.ensures
