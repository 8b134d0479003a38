use Rattle.std.proofs.Common.{arith, sym}
use Rattle.cm_history.proofs.NodeSets.{most_counted, one_more, set_with}
use Rattle.cm_history.proofs.node_set.NodeSet.insert.Goals as goal

pub overflow_add-self : goal.overflow_add-self
overflow_add-self c = omega (arith, c.args.self.now.counted, most_counted c.args.self.now.members)

pub invariant_of-self : goal.invariant_of-self
invariant_of-self c = record { counted = one_more c.args.self.now.members c.get.result c.args.self.now.number c.get.ensures.range.0 (omega (arith, c.get.ensures.range.1)) (rw c.get.ensures.value (sym c.if-not-contains.ensures)) c.args.self.now.counted }

pub returns-then-not-contains : goal.returns-then-not-contains
returns-then-not-contains c = λ i. rw (sym c.get.ensures.value) (set_with c.args.self.now.members c.get.result i (omega (arith, c.get.ensures.range.1)))
