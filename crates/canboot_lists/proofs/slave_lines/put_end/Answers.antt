use Rattle.std.proofs.Common.{◌≡◌, ◌==◌, false}
use Rattle.std.proofs.lemmas.Bool.{ne_eqb}
use Rattle.canboot_lists.proofs.slave_lines.put_end.Goals as goal

pub returns-then-ms-eq0 : goal.returns-then-ms-eq0
returns-then-ms-eq0 g c = rw (c.if-ms-eq0.true) c.writeln.ensures.bytes

pub returns : goal.returns
returns g c =
    let some : (c.args.entry.now.heartbeat_ms == 0) ≡ false = ne_eqb c.args.entry.now.heartbeat_ms 0 c.if-ms-eq0.false in
    rw (some) c.writeln-2.ensures.bytes
