use Rattle.std.proofs.Common.{◌≡◌, ◌==◌, false}
use Rattle.std.proofs.KnownBytes.{Appends-nil}
use Rattle.std.proofs.lemmas.Bool.{ne_eqb}
use Rattle.canboot_lists.proofs.slave_lines.put_state.Goals as goal

pub returns-then-not-is_kept_alive : goal.returns-then-not-is_kept_alive
returns-then-not-is_kept_alive g c = rw (← c.if-not-is_kept_alive.ensures) (Appends-nil (g.W.Write.contents c.args.out.now))

pub returns-then-entry-eq0 : goal.returns-then-entry-eq0
returns-then-entry-eq0 g c = rw (← c.if-not-is_kept_alive.ensures, c.if-entry-eq0.true) c.writeln.ensures.bytes

pub returns-else-entry-eq0 : goal.returns-else-entry-eq0
returns-else-entry-eq0 g c =
    let some : (c.args.entry.now.heartbeat_ms == 0) ≡ false = ne_eqb c.args.entry.now.heartbeat_ms 0 c.if-entry-eq0.false in
    rw (← c.if-not-is_kept_alive.ensures, some) c.writeln-else-entry-eq0.ensures.bytes
