use Rattle.std.proofs.Common.{◌+◌, ◌-◌, length, drop, arith, length-drop}
use Rattle.std.proofs.lemmas.List.{take_all}
use Rattle.cm_text.proofs.Decimals.{few_digits, number_ends, one_digit}
use Rattle.cm_text.proofs.near.near_decimal.Goals as goal

pub returns-then-n-most : goal.returns-then-n-most
returns-then-n-most c =
    let bytes = c.args.bytes.now in
    let at = c.loop-at.at in
    let so_far = c.loop-at.invariant in
    let rest = drop (at + 1) bytes in
    let whole = take_all (length bytes - (at + 1)) rest (omega (arith, length-drop (at + 1) bytes)) in
    (rw whole (number_ends bytes at c.loop-at.n (omega arith) so_far.1 so_far.0 (omega arith) (omega arith) (λ zero. (so_far.2 zero).1) c.if-bytes-at-eq32.true), c.if-n-most.true)

pub overflow_mul-n : goal.overflow_mul-n
overflow_mul-n c = let so_far = c.loop-at.invariant in omega (arith, few_digits c.args.bytes.now c.loop-at.at c.loop-at.n (omega arith) so_far.1 so_far.0 (omega arith))

pub overflow_add-n : goal.overflow_add-n
overflow_add-n c = let so_far = c.loop-at.invariant in omega (arith, few_digits c.args.bytes.now c.loop-at.at c.loop-at.n (omega arith) so_far.1 so_far.0 (omega arith))

pub loop-at-preserved : goal.loop-at-preserved
loop-at-preserved c =
    let so_far = c.loop-at.invariant in
    let more = one_digit c.args.bytes.now c.loop-at.at c.loop-at.n c.worth-digit.result (omega arith) so_far.0 so_far.1 (omega arith) (c.worth-digit.ensures (omega arith)) in
    (more.0, more.1, λ zero. absurd (omega (arith, (so_far.2 zero).0)))
