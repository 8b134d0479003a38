use Rattle.std.proofs.Common.{◌≡◌, ◌==◌, false}
use Rattle.std.proofs.lemmas.Bool.{ne_eqb}
use Rattle.canboot_lists.proofs.slave_lines.put_device.Goals as goal

pub returns-then-value-eq0 : goal.returns-then-value-eq0
returns-then-value-eq0 g c = rw (c.if-value-eq0.true) c.writeln.ensures.bytes

pub returns : goal.returns
returns g c =
    let some : (c.args.value == 0) ≡ false = ne_eqb c.args.value 0 c.if-value-eq0.false in
    rw (some) c.put_compared.ensures
