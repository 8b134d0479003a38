use Rattle.std.proofs.Common.{◌++◌, ◌∷◌, [], List, length, map, refl, sym, ap, ◌∙◌, append_assoc, arith, length-append}
use Rattle.std.specs.Vec.Iter.{into_iter_items}
use Rattle.cm_register.specs.Handing.{calls_by, calls_in, count_calls}
use Rattle.cm_register.specs.SeatViews.{SeatView}
use Rattle.cm_register.proofs.Longer.{nothing_in}
use Rattle.cm_register.proofs.SeatLists.{count_calls_push, shows_seats_push, taken_all}
use Rattle.cm_register.proofs.closing.gather.Goals as goal

pub loop-seat-preserved : goal.loop-seat-preserved
loop-seat-preserved g c =
    let was = c.loop-seat.invariant in
    let more = c.loop-seat.yielded in
    let seat = c.in-Some.seat in
    let number = length-append more (seat ∷ []) in
    record {
      can = tt;
      ends = tt;
      left = append_assoc more (seat ∷ []) (into_iter_items c.next.new.self) ∙ (ap (λ (w : List SeatView). more ++ w) (sym c.in-Some.ensures.steps.0) ∙ was.left);
      lists = shows_seats_push c.loop-seat.lists.items c.push_reserved.new.self.items more c.end.result seat c.push_reserved.ensures.items was.lists c.end.ensures.calls;
      count = omega (arith, c.push_reserved.ensures.len, was.count, number);
      room = c.push_reserved.ensures.capacity ∙ was.room;
      parts = omega (arith, c.end.ensures.parts, was.parts, number);
      bound = c.end.ensures.apart;
      amount = omega (arith, c.end.ensures.amount, was.amount, count_calls_push more seat);
    }

pub loop-seat-init : goal.loop-seat-init
loop-seat-init g c = record {
  can = tt;
  ends = tt;
  left = c.into_iter-seat-iterator.ensures.into_iter_gives.0;
  lists = ap (map calls_in) (nothing_in c.args.lists.items (omega (arith, c.args.lists.ok.0, c.requires.room.0)));
  count = c.requires.room.0;
  room = refl;
  parts = c.requires.share.0;
  bound = omega (arith, c.requires.share.0);
  amount = c.requires.share.1;
}

pub push_reserved-requires : goal.push_reserved-requires
push_reserved-requires g c =
    let was = c.loop-seat.invariant in
    omega (arith, was.count, was.room, was.parts, c.end.ensures.parts, c.end.ensures.apart, c.requires.room.1)

pub loop-seat-smaller : goal.loop-seat-smaller
loop-seat-smaller g c = omega (arith, c.in-Some.ensures.steps.1)

pub returns-clause-lists : goal.returns-clause-lists
returns-clause-lists g c =
    let was = c.loop-seat.invariant in
    let none = nothing_in (into_iter_items c.loop-seat.seat-iterator) (omega (arith, c.loop-seat.seat-iterator.rest.ok.0, c.in-None.ensures.steps.0)) in
    was.lists ∙ ap (map calls_by) (taken_all c.loop-seat.yielded _ _ none was.left)

pub returns-clause-share : goal.returns-clause-share
returns-clause-share g c =
    let was = c.loop-seat.invariant in
    let none = nothing_in (into_iter_items c.loop-seat.seat-iterator) (omega (arith, c.loop-seat.seat-iterator.rest.ok.0, c.in-None.ensures.steps.0)) in
    let all = taken_all c.loop-seat.yielded _ _ none was.left in
    (was.parts ∙ ap length all, was.bound, was.amount ∙ ap count_calls all)
