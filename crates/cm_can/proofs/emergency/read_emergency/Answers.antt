use Rattle.std.proofs.Common.{◌≡◌, ap, arith, length, ◌∙◌}
use Rattle.cm_can.proofs.emergency.read_emergency.Goals as goal
use Rattle.cm_can.proofs.emergency.read_emergency.Goals.{in_default-via-then-data-lt8, in_default-via-else-data-lt8+else-this-lt9}

pub returns-in_default-clause-none : goal.returns-in_default-clause-none
returns-in_default-clause-none c = λ node e t.
    let five : length e.specific ≡ 5 = t.1 in
    let carried = t.2.2.2 in
    let eight : length c.data.result.now ≡ 8 = omega (arith, five, ap length (c.data.ensures.value ∙ carried)) in
    elim c.in_default.branch [
      | in_default-via-then-data-lt8 w ↦ grind (arith, eight)
      | in_default-via-else-data-lt8+else-this-lt9 w ↦ grind (arith, eight)
    ]
