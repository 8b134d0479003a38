use Rattle.std.proofs.Common.{◌<◌, List, length, ap, arith, subst}
use Rattle.std.proofs.lemmas.Result.{IfOk-weaker}
use Rattle.cm_run.specs.declared.outcome.Outcome.{Outcome}
use Rattle.canboot_run.specs.Simulated.{HasEnded}
use Rattle.cm_register.proofs.Seats.{some_seats}
use Rattle.canboot_run.proofs.Simulated.{first_seat, operated, worked}
use Rattle.canboot_run.proofs.simulation.run_named.Goals as goal

pub remove-operator-requires : goal.remove-operator-requires
remove-operator-requires g c =
    omega (arith, c.in-Ok.named.1.ok.0, ap length c.in-Ok.ensures.seats, some_seats g.K.RunName.seats (omega (arith, c.args.opened.seats_fit.0, c.requires.name.seats)))

pub returns-clause-run : goal.returns-clause-run
returns-clause-run g c =
    let some : 0 < g.K.RunName.seats = omega (arith, c.args.opened.seats_fit.0, c.requires.name.seats) in
    let booted = c.in_ok-booted.booted in
    let was = c.in_ok-booted.ensures.booted in
    IfOk-weaker c.close.result _ _
    (λ s theirs. record {
      outcomes = booted.outcomes.items;
      slaves = was.slaves;
      operated = operated s.history.items c.push.new.self.items booted.seats.items c.remove-operator.result c.start_first.new.operator c.end.new.operator c.args.options.now.faults booted.outcomes.items
          theirs c.in-Ok-push.ensures.items
          (first_seat g.K.RunName.seats c.in-Ok.named.1.items c.remove-operator.result c.in-Ok.ensures.seats some c.remove-operator.ensures.value)
          c.in_ok-start_first.ensures.started
          (subst (λ (os : List Outcome). HasEnded c.args.options.now.faults os c.start_first.new.operator c.end.new.operator) c.as_slice.ensures.value c.in_ok-end.ensures.ended);
      worked = worked g.K.HistoryName.net c.args.options.now.attempts g.K.RunName.seats c.args.buses.items booted.outcomes.items s.history.items c.in-Ok.named.1.items c.remove-operator.new.self.items c.push.new.self.items booted.seats.items c.end.new.operator
          theirs c.in-Ok-push.ensures.items
          c.in-Ok.ensures.seats c.remove-operator.ensures.items some was;
    })
    c.close.ensures.calls
