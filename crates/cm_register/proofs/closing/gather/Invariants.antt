use Rattle.std.proofs.Common.{◌≡◌, ◌≤◌, ◌++◌, length, map, vec_len, vec_capacity}
use Rattle.std.specs.Vec.Iter.{into_iter_items}
use Rattle.cm_register.specs.Handing.{calls_by, calls_in, count_calls}
use Rattle.cm_register.proofs.closing.gather.Given as goal

abbrev pub invariant-loop-seat : goal.invariant-loop-seat
invariant-loop-seat g l = record {
  can : (goal.iterator-loop-seat g).can_next l.seat-iterator;
  ends : (goal.iterator-loop-seat g).is_finite l.seat-iterator;
  left : l.yielded ++ into_iter_items l.seat-iterator ≡ l.fn.seats.items;
  lists : map calls_in l.lists.items ≡ map calls_by l.yielded;
  count : vec_len l.lists ≡ length l.yielded;
  room : vec_capacity l.lists ≡ vec_capacity l.initial.lists;
  parts : l.rest.parts ≡ length l.yielded;
  bound : l.rest.parts ≤ g.K.Ledger.parts;
  amount : l.rest.amount ≡ count_calls l.yielded;
}
