use Rattle.std.specs.Prelude.{All}
use Rattle.cm_crew.proofs.Lists.{IsOfReceived}
use Rattle.cm_crew.proofs.Operated.{OnlyBoots}
use Rattle.cm_crew.proofs.Working.{IsOfOwn}
use Rattle.cm_crew.proofs.closing.plain_seats.Given as goal

abbrev pub invariant-loop-seat : goal.invariant-loop-seat
invariant-loop-seat g l = record {
  received : All (IsOfReceived g.B.BusName.format g.B.BusName.text g.K.HistoryName.net) l.plain.items;
  boots : All OnlyBoots l.plain.items;
  own : All (IsOfOwn g.K.HistoryName.net g.K.RunName.seats) l.plain.items;
}
