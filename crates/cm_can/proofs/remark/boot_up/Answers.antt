use Rattle.cm_can.proofs.remark.boot_up.Goals as goal

pub returns-in_default-clause-none : goal.returns-in_default-clause-none
returns-in_default-clause-none c = λ node says. c.in_default.ensures.none node 0 says
