use Rattle.cm_can.proofs.Remarks.{no_remark}
use Rattle.cm_can.proofs.remark.read_remark.Goals as goal

pub returns-in-None-clause-none : goal.returns-in-None-clause-none
returns-in-None-clause-none c =
    no_remark c.args.frame.now c.in_default.ensures.none c.in_default-boot_up.ensures.none c.in-None.ensures.none
