use Rattle.std.proofs.Common.{arith}
use Rattle.canboot_run.proofs.Simulated.{simulated_if}
use Rattle.canboot_run.proofs.simulation.simulate.Goals as goal

pub returns-in-Ok-open-clause-simulated : goal.returns-in-Ok-open-clause-simulated
returns-in-Ok-open-clause-simulated g c =
    let made = c.in-Ok.buses in
    let options = c.args.options.now in
    simulated_if (λ s. s.history.items) c.run_named.result c.args.network.now options.workers options.attempts options.faults made.items c.in-Ok-open.opened.net.now c.in-Ok-open.ensures.opened.network
    (omega (arith, c.in-Ok.ensures.count, made.ok.0)) c.in-Ok.ensures.buses c.run_named.ensures.run
