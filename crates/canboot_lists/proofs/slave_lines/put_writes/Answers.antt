use Rattle.std.proofs.KnownBytes.{Appends-nil}
use Rattle.canboot_lists.specs.Explained.{write_text}
use Rattle.cm_netlist.proofs.Lines.{of_all, one_more}
use Rattle.canboot_lists.proofs.slave_lines.put_writes.Goals as goal

pub loop-write-init : goal.loop-write-init
loop-write-init g c = Appends-nil (g.W.Write.contents c.args.out.now)

pub loop-write-preserved : goal.loop-write-preserved
loop-write-preserved g c =
    one_more write_text c.args.writes.now c.loop-write.write-index c.write-item.result _ _ _ c.loop-write-test.true c.write-item.is c.loop-write.invariant
    c.in_ok-put_write.ensures

pub returns : goal.returns
returns g c = of_all write_text c.args.writes.now c.loop-write.write-index _ _ c.loop-write-test.false c.loop-write.invariant
