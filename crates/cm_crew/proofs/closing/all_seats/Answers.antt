use Rattle.std.proofs.Common.{◌∙◌, ◌++◌, ◌∷◌, [], ap, sym}
use Rattle.cm_register.specs.SeatViews.{SeatView}
use Rattle.std.proofs.lemmas.List.Elements.{All-push, All-same, All-weaker}
use Rattle.cm_crew.specs.Operated.{BootsUnlessOperator}
use Rattle.cm_crew.proofs.Lists.{IsOfReceived}
use Rattle.cm_crew.proofs.Operated.{OnlyBoots}
use Rattle.cm_crew.proofs.Working.{IsOfOwn}
use Rattle.cm_crew.proofs.closing.all_seats.Goals as goal

pub returns-clause-received : goal.returns-clause-received
returns-clause-received g c =
    All-same (IsOfReceived g.B.BusName.format g.B.BusName.text g.K.HistoryName.net) c.push.new.self.items _ c.in_ok-push.ensures.items
    (All-push (IsOfReceived g.B.BusName.format g.B.BusName.text g.K.HistoryName.net) c.in_ok-plain.plain.items c.into_seat-operator.result.0 c.in_ok-plain.ensures.received c.into_seat-operator.ensures.received)

pub returns-clause-others : goal.returns-clause-others
returns-clause-others g c =
    All-same BootsUnlessOperator c.push.new.self.items _ c.in_ok-push.ensures.items
    (All-push BootsUnlessOperator c.in_ok-plain.plain.items c.into_seat-operator.result.0 (All-weaker OnlyBoots BootsUnlessOperator (λ s boots other. boots) c.in_ok-plain.plain.items c.in_ok-plain.ensures.boots)
    (λ other. absurd (other c.into_seat-operator.ensures.operators.number)))

pub returns-clause-operator : goal.returns-clause-operator
returns-clause-operator g c =
    (c.in_ok-plain.plain.items, c.into_seat-operator.result.0, c.into_seat-operator.result.1, c.in_ok-push.ensures.items, c.into_seat-operator.ensures.operators)

pub returns-clause-own : goal.returns-clause-own
returns-clause-own g c =
    All-same (IsOfOwn g.K.HistoryName.net g.K.RunName.seats) c.push.new.self.items _ c.in_ok-push.ensures.items
    (All-push (IsOfOwn g.K.HistoryName.net g.K.RunName.seats) c.in_ok-plain.plain.items c.into_seat-operator.result.0 c.in_ok-plain.ensures.own c.into_seat-operator.ensures.own)

pub returns-clause-last : goal.returns-clause-last
returns-clause-last g c =
    let same = c.into_seat-operator.ensures.same in (
      sym (ap (λ (s : SeatView). s.number) same) ∙ c.into_seat-operator.ensures.operators.number,
      c.in_ok-plain.plain.items,
      c.in_ok-push.ensures.items ∙ ap (λ (s : SeatView). c.in_ok-plain.plain.items ++ s ∷ []) same,
    )
