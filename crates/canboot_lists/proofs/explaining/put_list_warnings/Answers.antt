use Rattle.std.specs.Prelude.{codes}
use Rattle.std.specs.Io.KnownBytes.{Appends}
use Rattle.std.proofs.KnownBytes.{Appends-nil, Appends-trans}
use Rattle.cm_netlist.specs.StartWarnings.{ended}
use Rattle.canboot_lists.proofs.explaining.put_list_warnings.Goals.{then-list_is_warned+in_ok-writeln, else-list_is_warned}
use Rattle.canboot_lists.proofs.explaining.put_list_warnings.Goals as goal

pub returns-in_ok-writeln-2 : goal.returns-in_ok-writeln-2
returns-in_ok-writeln-2 g c =
    let a = g.W.Write.contents c.args.out.now in
    elim c.if-list_is_warned.branch [
      | then-list_is_warned+in_ok-writeln w ↦
          let first : Appends a (g.W.Write.contents c.if-list_is_warned.out) (ended (codes "warning: no slave is listed")) = rw (w.out-is) w.in_ok-writeln.ensures.bytes in
          rw (← w.if-list_is_warned.ensures, ← c.if-list_is_warned-2.ensures) (Appends-trans a _ _ _ _ first c.in_ok-writeln-2.ensures.bytes)
      | else-list_is_warned w ↦ rw (← w.if-list_is_warned.ensures, ← c.if-list_is_warned-2.ensures, ← w.out-is) c.in_ok-writeln-2.ensures.bytes
    ]

pub returns-else-list_is_warned-2 : goal.returns-else-list_is_warned-2
returns-else-list_is_warned-2 g c =
    elim c.if-list_is_warned.branch [
      | then-list_is_warned+in_ok-writeln w ↦ rw (← w.if-list_is_warned.ensures, ← c.if-list_is_warned-2.ensures, w.out-is) w.in_ok-writeln.ensures.bytes
      | else-list_is_warned w ↦ rw (← w.if-list_is_warned.ensures, ← c.if-list_is_warned-2.ensures, w.out-is)
          (Appends-nil (g.W.Write.contents c.args.out.now))
    ]
