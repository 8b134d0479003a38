use Rattle.canboot_run.proofs.SlaveFolds.{aborting_done, aborting_more}
use Rattle.canboot_run.proofs.slave_faults.aborting.Goals as goal

pub loop-one-preserved : goal.loop-one-preserved
loop-one-preserved c =
    aborting_more c.args.aborted.now c.loop-one.one-index c.args.id c.args.writes.now c.loop-one.slave _ _ c.one-item.result c.loop-one-test.true c.one-item.is c.aborting_by-slave.ensures
    c.loop-one.invariant

pub returns : goal.returns
returns c = aborting_done c.args.aborted.now c.loop-one.one-index c.args.id c.args.writes.now c.loop-one.slave _ c.loop-one-test.false c.loop-one.invariant
