use Rattle.std.proofs.Common.{ap, arith, length}
use Rattle.cm_can.proofs.error_lines.error_of.Goals as goal

pub returns-then-ne-clause-none : goal.returns-then-ne-clause-none
returns-then-ne-clause-none c = λ e is. let other = rw is.carries at c.if-ne.ensures in cc

pub returns-in_default-clause-none : goal.returns-in_default-clause-none
returns-in_default-clause-none c = λ e is. omega (arith, ap length c.data-data.ensures.value, is.eight, c.in_default.len_below)

pub returns-in_default-2-clause-none : goal.returns-in_default-2-clause-none
returns-in_default-2-clause-none c = λ e is. omega (arith, ap length c.data-data.ensures.value, is.eight, c.in_default.len_at_least)
