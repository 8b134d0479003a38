use Rattle.std.proofs.Common.{◌∙◌, Ok, ap, subst, sym}
use Rattle.cm_crew.specs.CallsMade.{calls_made}
use Rattle.cm_register.specs.SeatViews.{SeatView}
use Rattle.canboot_turns.specs.Driven.{IsDriven}
use Rattle.canboot_live.proofs.threads.watch_network.Goals as goal

pub returns-clause-driven : goal.returns-clause-driven
returns-clause-driven g c = λ asked.
    let setting = c.args.setting.now in
    subst (λ (s : SeatView). IsDriven g.B.BusName.format g.B.BusName.text g.B.BusName.typed setting.bus.network.now setting.options (calls_made s)) (sym c.end-crew.ensures.operator)
    (c.run_threads-ending.ensures.driven (c.in_ok-ending.was ∙ ap Ok asked) c.in_ok-operator.ensures.first)
