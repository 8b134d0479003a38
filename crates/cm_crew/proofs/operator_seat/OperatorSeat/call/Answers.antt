use Rattle.cm_crew.proofs.Operated.{no_report, watched}
use Rattle.cm_crew.proofs.ReceivedRounds.{called}
use Rattle.cm_crew.proofs.Working.{called_own}
use Rattle.cm_crew.proofs.operator_seat.OperatorSeat.call.Goals as goal

pub invariant_of-self : goal.invariant_of-self
invariant_of-self g c = (
  called g.B.BusName.format g.B.BusName.text g.K.HistoryName.net c.call.result c.self.inside.seat c.call.new.seat c.args.call (no_report c.args.call c.requires) c.call.ensures.seat c.call.ensures.same c.self.invariant.0,
  watched g.B.BusName.typed c.call.result c.self.inside.seat c.call.new.seat c.args.call c.self.inside.last c.requires c.call.ensures.seat c.call.ensures.same c.self.invariant.1,
  called_own g.K.HistoryName.net g.K.RunName.seats c.call.result c.self.inside.seat c.call.new.seat c.args.call (no_report c.args.call c.requires) c.call.ensures.seat c.call.ensures.same c.self.invariant.2,
)
