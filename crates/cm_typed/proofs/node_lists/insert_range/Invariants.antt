use Rattle.std.proofs.Common.{◌≡◌, ℕ}
use Rattle.std.specs.Prelude.{◌||◌}
use Rattle.cm_history.specs.NodeSets.{has}
use Rattle.cm_typed.proofs.NodeLists.{below}
use Rattle.cm_typed.proofs.node_lists.insert_range.Given as goal

-- the nodes of the range below this one are in the set
abbrev pub invariant-loop-number : goal.invariant-loop-number
invariant-loop-number l = (i : ℕ) → has l.set i ≡ (below l.first l.number i || has l.initial.set i)
