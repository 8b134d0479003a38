use Rattle.canboot_turns.proofs.Sendings.{wrote_line, wrote_none}
use Rattle.canboot_turns.proofs.error_control.send_step.Goals as goal

pub returns-in-Some-clause-sent : goal.returns-in-Some-clause-sent
returns-in-Some-clause-sent g c = λ h.
    wrote_line c.args.outlet.now.outlet.format c.args.network.now c.args.step.now c.in-Some.frame.frame _ _ c.in-Some.ensures.some (c.send.ensures.written h)

pub returns-in-None-clause-sent : goal.returns-in-None-clause-sent
returns-in-None-clause-sent g c = λ h. wrote_none c.args.outlet.now.outlet.format c.args.network.now c.args.step.now _ c.in-None.ensures.none
