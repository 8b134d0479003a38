use Rattle.std.proofs.Common.{◌≡◌, ◌+◌, vec_capacity, vec_len}
use Rattle.cm_register.specs.SeatOpening.{fresh_seats}
use Rattle.cm_register.proofs.opened.make_seats.Given as goal

abbrev pub invariant-loop-number : goal.invariant-loop-number
invariant-loop-number g l = record {
  parts : l.rest.parts + l.number ≡ l.seats;
  amount : l.rest.amount ≡ 0;
  made : l.all.items ≡ fresh_seats l.number;
  count : vec_len l.all ≡ l.number;
  room : vec_capacity l.all ≡ l.seats;
}
