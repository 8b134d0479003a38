use Rattle.std.proofs.Common.{arith, sym}
use Rattle.std.specs.Prelude.{vec_len}
use Rattle.std.proofs.lemmas.List.Elements.{All-same}
use Rattle.canboot_run.specs.Simulated.{AreMade}
use Rattle.canboot_run.proofs.Simulated.{have_booted}
use Rattle.canboot_run.proofs.simulation.boot.Goals as goal

pub returns-in_ok-all_made-in-Ok-clause-booted : goal.returns-in_ok-all_made-in-Ok-clause-booted
returns-in_ok-all_made-in-Ok-clause-booted g c =
    let booted = c.in-Ok.booted in
    let all = c.in-Ok.ensures.all in
    have_booted g.K.HistoryName.net g.K.RunName.seats g.K.RunName.limit c.args.attempts (vec_len c.args.buses) c.args.seats.items c.args.buses.items booted c.in-Ok.ensures.outcomes c.in-Ok.ensures.rounds
    (All-same AreMade booted.outcomes.items c.as_slice.result.now (sym c.as_slice.ensures.value) c.in_ok-all_made-in-Ok.ensures.made)
    (omega (arith, c.args.seats.ok.0, c.args.buses.ok.0, all.2)) (omega (arith, booted.seats.ok.0, c.args.seats.ok.0, c.args.buses.ok.0, all.0, all.2)) (omega (arith, c.args.buses.ok.0))
