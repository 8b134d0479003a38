use Rattle.std.proofs.Common.{◌≡◌, ℕ, length}
use Rattle.std.specs.Prelude.{◌||◌}
use Rattle.cm_history.specs.NodeSets.{has}
use Rattle.cm_text.specs.Left.{left}
use Rattle.cm_typed.specs.NodeLists.{is_node_list, lists}
use Rattle.cm_typed.proofs.NodeLists.{has_one, spelled}
use Rattle.cm_typed.proofs.node_lists.with_nodes.Given as goal

-- the parts so far were ranges, and with the nodes of those that are left there are all
abbrev pub invariant-loop-part : goal.invariant-loop-part
invariant-loop-part l = record {
  spelled : spelled (left l.parts) ≡ is_node_list l.text;
  nodes : (i : ℕ) → (has l.all i || has_one (left l.parts) i) ≡ (has l.fn.nodes i || lists l.text i);
}

abbrev pub decreases-loop-part : goal.decreases-loop-part
decreases-loop-part l = length (left l.parts)
