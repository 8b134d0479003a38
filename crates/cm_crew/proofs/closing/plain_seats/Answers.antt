use Rattle.std.proofs.lemmas.List.Elements.{All-push, All-same}
use Rattle.cm_crew.proofs.Lists.{IsOfReceived}
use Rattle.cm_crew.proofs.Operated.{OnlyBoots}
use Rattle.cm_crew.proofs.Working.{IsOfOwn}
use Rattle.cm_crew.proofs.closing.plain_seats.Goals as goal

pub loop-seat-preserved : goal.loop-seat-preserved
loop-seat-preserved g c =
    let P = IsOfReceived g.B.BusName.format g.B.BusName.text g.K.HistoryName.net in
    let Q = IsOfOwn g.K.HistoryName.net g.K.RunName.seats in
    let was = c.loop-seat.invariant in
    let seat = c.into_seat.ensures in
    record {
      received = All-same P c.push.new.self.items _ c.in_ok-push.ensures.items (All-push P c.loop-seat.plain.items c.into_seat.result was.received seat.received);
      boots = All-same OnlyBoots c.push.new.self.items _ c.in_ok-push.ensures.items (All-push OnlyBoots c.loop-seat.plain.items c.into_seat.result was.boots seat.boots);
      own = All-same Q c.push.new.self.items _ c.in_ok-push.ensures.items (All-push Q c.loop-seat.plain.items c.into_seat.result was.own seat.own);
    }
