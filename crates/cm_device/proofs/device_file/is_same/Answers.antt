use Rattle.std.proofs.Common.{◌<◌, map, length, get_or, sym, ap, ◌∙◌, arith}
use Rattle.std.specs.Char.{to_ascii_lowercase}
use Rattle.std.proofs.lemmas.List.{get_or-map, length-map}
use Rattle.std.proofs.lemmas.Grind.{same_number_lists}
use Rattle.cm_device.proofs.device_file.is_same.Goals as goal

pub returns-clause-same : goal.returns-clause-same
returns-clause-same c = λ yes.
    let one = c.args.one.now in
    let other = c.args.other.now in
    let same = c.if-one-other.false in
    same_number_lists (map to_ascii_lowercase one) (map to_ascii_lowercase other)
    (length-map one to_ascii_lowercase ∙ same ∙ sym (length-map other to_ascii_lowercase))
    (λ k low. let below : k < length one = omega (arith, low, length-map one to_ascii_lowercase) in
    get_or-map to_ascii_lowercase one k 0 0 below
    ∙ c.loop-at.invariant k (omega (arith, below, c.loop-at-test.false))
    ∙ sym (get_or-map to_ascii_lowercase other k 0 0 (omega (arith, below, same))))

pub returns-then-small-clause-other : goal.returns-then-small-clause-other
returns-then-small-clause-other c = λ is same.
    let one = c.args.one.now in
    let other = c.args.other.now in
    let k = c.loop-at.at in
    let below : k < length one = c.loop-at-test.true in
    let inside : k < length other = omega (arith, below, c.if-one-other.false) in
    c.if-small.true
    (c.small.ensures ∙ sym (get_or-map to_ascii_lowercase one k 0 0 below) ∙ ap (λ xs. get_or xs k 0) same
    ∙ get_or-map to_ascii_lowercase other k 0 0 inside ∙ sym c.small-in-loop-at.ensures)
