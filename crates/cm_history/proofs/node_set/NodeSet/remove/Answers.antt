use Rattle.std.proofs.Common.{arith, sym}
use Rattle.cm_history.proofs.NodeSets.{least_counted, one_less, set_without}
use Rattle.cm_history.proofs.node_set.NodeSet.remove.Goals as goal

pub overflow_sub-self : goal.overflow_sub-self
overflow_sub-self c = omega (arith, c.args.self.now.counted, least_counted c.args.self.now.members c.get.result c.get.ensures.range.0 (omega (arith, c.get.ensures.range.1)) (rw c.get.ensures.value (sym c.if-contains.ensures)))

pub invariant_of-self : goal.invariant_of-self
invariant_of-self c = record { counted = one_less c.args.self.now.members c.get.result c.args.self.now.number (omega arith) c.get.ensures.range.0 (omega (arith, c.get.ensures.range.1)) (rw c.get.ensures.value (sym c.if-contains.ensures)) c.args.self.now.counted }

pub returns-then-contains : goal.returns-then-contains
returns-then-contains c = λ i. rw (sym c.get.ensures.value) (set_without c.args.self.now.members c.get.result i (omega arith) (omega (arith, c.get.ensures.range.1)))
