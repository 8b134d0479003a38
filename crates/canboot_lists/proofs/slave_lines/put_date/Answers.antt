use Rattle.std.proofs.Common.{◌≡◌, ◌==◌, false}
use Rattle.std.proofs.KnownBytes.{Appends-nil}
use Rattle.std.proofs.lemmas.Bool.{ne_eqb}
use Rattle.canboot_lists.proofs.slave_lines.put_date.Goals.{then-entry-eq0-via-then-entry-eq0, then-entry-eq0-via-else-entry-eq0+then-entry-eq0-2}
use Rattle.canboot_lists.proofs.slave_lines.put_date.Goals as goal

pub returns-then-entry-eq0 : goal.returns-then-entry-eq0
returns-then-entry-eq0 g c =
    let e = c.args.entry.now in
    elim c.then-entry-eq0.branch [
      | then-entry-eq0-via-then-entry-eq0 w ↦ rw (w.if-entry-eq0.true) (Appends-nil (g.W.Write.contents c.args.out.now))
      | then-entry-eq0-via-else-entry-eq0+then-entry-eq0-2 w ↦
          let date : (e.date == 0) ≡ false = ne_eqb e.date 0 w.if-entry-eq0.false in
          rw (date, w.if-entry-eq0-2.true) (Appends-nil (g.W.Write.contents c.args.out.now))
    ]

pub returns : goal.returns
returns g c =
    let e = c.args.entry.now in
    let date : (e.date == 0) ≡ false = ne_eqb e.date 0 c.if-entry-eq0.false in
    let time : (e.time == 0) ≡ false = ne_eqb e.time 0 c.if-entry-eq0-2.false in
    rw (date, time) c.writeln.ensures.bytes
