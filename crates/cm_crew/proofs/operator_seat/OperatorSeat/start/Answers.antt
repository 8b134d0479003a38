use Rattle.std.proofs.Common.{ℕ, List, [], ◌∷◌, ◌++◌, ap, ◌∙◌, subst, sym}
use Rattle.std.specs.Prelude.{Ok, map}
use Rattle.cm_register.specs.declared.made.Made.{Made}
use Rattle.cm_crew.specs.Workers.{AreOfItsSeat}
use Rattle.cm_crew.proofs.Working.{called_own, none_own}
use Rattle.cm_history.specs.declared.call.Call.TheVariants as call
use Rattle.cm_history.specs.declared.call.Reply.{Reply}
use Rattle.cm_register.specs.SeatCalls.{made}
use Rattle.cm_crew.proofs.Operated.{first_call}
use Rattle.cm_crew.proofs.ReceivedRounds.{fresh_received, quiet_received}
use Rattle.cm_crew.proofs.operator_seat.OperatorSeat.start.Goals as goal

pub invariant_of-result : goal.invariant_of-result
invariant_of-result g c =
    let first = made c.in-Ok.receipt.position call.StartNetwork c.in-Ok.receipt.reply in (
      quiet_received g.B.BusName.format g.B.BusName.text g.K.HistoryName.net c.args.seat.list c.call.new.seat.list first tt c.in-Ok.ensures.seat.1
          (0, fresh_received g.B.BusName.format g.B.BusName.text g.K.HistoryName.net c.args.seat.list c.requires.1 0),
      first_call g.B.BusName.typed c.args.seat c.call.new.seat first c.requires c.in-Ok.ensures.seat
          (ap (λ (n : ℕ). made n call.StartNetwork c.in-Ok.receipt.reply) (c.if-receipt-ne1.false) ∙ ap (λ (r : Reply). made 1 call.StartNetwork r) c.in_ok-started-in-Ok.ensures.started),
      called_own g.K.HistoryName.net g.K.RunName.seats (Ok c.in-Ok.receipt) c.args.seat c.call.new.seat call.StartNetwork tt c.in-Ok.ensures.seat tt
          (subst (λ (l : List Made). AreOfItsSeat g.K.HistoryName.net g.K.RunName.seats c.args.seat.number l) (sym c.requires.1) (none_own g.K.HistoryName.net g.K.RunName.seats c.args.seat.number)),
    )

pub returns-else-receipt-ne1-clause-first : goal.returns-else-receipt-ne1-clause-first
returns-else-receipt-ne1-clause-first g c =
    ap (λ (l : List Made). map (λ (m : Made). m.call) l) (c.in-Ok.ensures.seat.1 ∙ ap (λ (l : List Made). l ++ made c.in-Ok.receipt.position call.StartNetwork c.in-Ok.receipt.reply ∷ []) c.requires.1)
