use Rattle.std.proofs.Common.{arith, inl, subst, sym}
use Rattle.std.specs.Prelude.{Ok}
use Rattle.cm_crew.proofs.Operated.{operated_on}
use Rattle.cm_crew.proofs.ReceivedRounds.{quiet_received}
use Rattle.cm_crew.proofs.Requests.{stands_as}
use Rattle.cm_crew.proofs.Working.{called_own}
use Rattle.cm_crew.specs.Operated.{IsOperators}
use Rattle.cm_crew.specs.ReceivedCalls.{IsReceivedList}
use Rattle.cm_crew.specs.Workers.{AreOfItsSeat}
use Rattle.cm_register.specs.SeatCalls.{made}
use Rattle.cm_register.specs.SeatViews.{SeatView}
use Rattle.cm_crew.proofs.operator_seat.OperatorSeat.make.Goals as goal

pub invariant_of-self : goal.invariant_of-self
invariant_of-self g c =
    let asked = made c.in-Ok.receipt.position c.args.call c.in-Ok.receipt.reply in
    let own = c.spells.ensures.own c.if-not-spells.false in
    let stands =
    stands_as g.B.BusName.typed c.place-place.result c.args.line.now.place c.line.result.now c.args.line.now.line c.args.call c.place-place.ensures c.line.ensures.line (c.spells.ensures.asked c.if-not-spells.false)
    c.line.ensures.stands in (
      quiet_received g.B.BusName.format g.B.BusName.text g.K.HistoryName.net c.self.inside.seat.list c.call.new.seat.list asked own c.in-Ok.ensures.seat.1 c.self.invariant.0,
      operated_on g.B.BusName.typed c.self.inside.seat c.call.new.seat c.self.inside.last c.place-place.result asked c.in-Ok.ensures.seat (inl (omega (arith, c.if-place-self.false), stands.0, stands.1, stands.2)) c.self.invariant.1,
      called_own g.K.HistoryName.net g.K.RunName.seats (Ok c.in-Ok.receipt) c.self.inside.seat c.call.new.seat c.args.call own c.in-Ok.ensures.seat tt c.self.invariant.2,
    )

pub invariant_of-self-in-Err : goal.invariant_of-self-in-Err
invariant_of-self-in-Err g c =
    subst (λ (s : SeatView). IsReceivedList g.B.BusName.format g.B.BusName.text g.K.HistoryName.net s.list × IsOperators g.B.BusName.typed s c.self.inside.last × AreOfItsSeat g.K.HistoryName.net g.K.RunName.seats s.number s.list) (sym c.in-Err.ensures.same) c.self.invariant
