use Rattle.canboot_run.proofs.SlaveFolds.{wrong_done, wrong_more}
use Rattle.canboot_run.proofs.slave_faults.wrong_with.Goals as goal

pub loop-one-preserved : goal.loop-one-preserved
loop-one-preserved c =
    wrong_more c.args.wrong.now c.loop-one.one-index c.args.id c.loop-one.slave _ _ c.one-item.result c.loop-one-test.true c.one-item.is c.wrong_by-slave.ensures c.loop-one.invariant

pub returns : goal.returns
returns c = wrong_done c.args.wrong.now c.loop-one.one-index c.args.id c.loop-one.slave _ c.loop-one-test.false c.loop-one.invariant
