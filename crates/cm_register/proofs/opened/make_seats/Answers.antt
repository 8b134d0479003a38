use Rattle.std.proofs.Common.{◌≡◌, ◌∙◌, refl, sym, ap, arith}
use Rattle.cm_register.specs.SeatOpening.{fresh_seats}
use Rattle.cm_register.proofs.SeatLists.{fresh_push}
use Rattle.cm_register.proofs.opened.make_seats.Goals as goal

pub returns-in_default-clause-seats : goal.returns-in_default-clause-seats
returns-in_default-clause-seats g c = tt

pub returns-in_default-clause-rest : goal.returns-in_default-clause-rest
returns-in_default-clause-rest g c = tt

pub returns-in_default-clause-fault : goal.returns-in_default-clause-fault
returns-in_default-clause-fault g c = tt

pub returns-in_default-reader-clause-seats : goal.returns-in_default-reader-clause-seats
returns-in_default-reader-clause-seats g c = tt

pub returns-in_default-reader-clause-rest : goal.returns-in_default-reader-clause-rest
returns-in_default-reader-clause-rest g c = tt

pub returns-in_default-reader-clause-fault : goal.returns-in_default-reader-clause-fault
returns-in_default-reader-clause-fault g c = tt

pub loop-number-init : goal.loop-number-init
loop-number-init g c = record {
  parts = omega (arith, c.requires.share.0);
  amount = c.requires.share.1;
  made = c.in-Ok.ensures.items;
  count = c.in-Ok.ensures.len;
  room = c.in-Ok.ensures.exact ∙ c.from.ensures;
}

pub split_off-share-requires-clause-has_parts : goal.split_off-share-requires-clause-has_parts
split_off-share-requires-clause-has_parts g c =
    omega (arith, c.loop-number.invariant.parts, c.loop-number-test.true)

pub split_off-share-requires-clause-has_amount : goal.split_off-share-requires-clause-has_amount
split_off-share-requires-clause-has_amount g c = omega arith

pub split_off-share-requires-clause-left_backed : goal.split_off-share-requires-clause-left_backed
split_off-share-requires-clause-left_backed g c = λ _. sym c.loop-number.invariant.amount

pub split_off-share-requires-clause-given_backed : goal.split_off-share-requires-clause-given_backed
split_off-share-requires-clause-given_backed g c = λ _. refl

pub overflow_add-number : goal.overflow_add-number
overflow_add-number g c = record { fits = omega (arith, c.loop-number-test.true, c.requires.seats.1) }

pub new-requires-clause-number : goal.new-requires-clause-number
new-requires-clause-number g c = (
  omega arith,
  omega (arith, c.loop-number-test.true, c.requires.seats.0),
  omega (arith, c.loop-number-test.true, c.requires.seats.1),
)

pub new-requires-clause-share : goal.new-requires-clause-share
new-requires-clause-share g c = (c.split_off-share.ensures.parts, c.split_off-share.ensures.amount)

pub new-requires-clause-known : goal.new-requires-clause-known
new-requires-clause-known g c = c.past-known.ensures ∙ c.requires.writer

pub push_reserved-requires : goal.push_reserved-requires
push_reserved-requires g c =
    omega (arith, c.loop-number.invariant.count, c.loop-number.invariant.room, c.loop-number-test.true)

pub loop-number-smaller : goal.loop-number-smaller
loop-number-smaller g c = omega (arith, c.loop-number-test.true)

pub loop-number-preserved : goal.loop-number-preserved
loop-number-preserved g c =
    let was = c.loop-number.invariant in
    record {
      parts = omega (arith, was.parts, c.split_off-share.ensures.parts_left);
      amount = omega (arith, was.amount, c.split_off-share.ensures.amount_left);
      made = fresh_push c.loop-number.number c.loop-number.all.items c.push_reserved.new.self.items c.new.result c.push_reserved.ensures.items was.made c.new.ensures;
      count = omega (arith, c.push_reserved.ensures.len, was.count);
      room = c.push_reserved.ensures.capacity ∙ was.room;
    }

pub returns-clause-seats : goal.returns-clause-seats
returns-clause-seats g c =
    let all : c.loop-number.number ≡ g.K.RunName.seats = omega (arith, c.loop-number.invariant.parts, c.loop-number-test.false, c.requires.seats.0) in
    c.loop-number.invariant.made ∙ ap fresh_seats all

pub returns-clause-rest : goal.returns-clause-rest
returns-clause-rest g c =
    (omega (arith, c.loop-number.invariant.parts, c.loop-number-test.false), c.loop-number.invariant.amount)

pub returns-clause-fault : goal.returns-clause-fault
returns-clause-fault g c = tt
