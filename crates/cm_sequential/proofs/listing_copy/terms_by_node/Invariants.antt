use Rattle.std.proofs.Common.{◌≡◌, ℕ, ◌<◌, length, None}
use Rattle.std.specs.List.{slice_index_or}
use Rattle.cm_netlist.specs.Network as network
use Rattle.cm_sequential.proofs.listing_copy.terms_by_node.Given as goal

-- the places so far have the nodes' terms
abbrev pub invariant-loop-node : goal.invariant-loop-node
invariant-loop-node l = ((i : ℕ) → i < l.node → slice_index_or l.terms i None ≡ network.terms l.net i) × (length l.terms ≡ 128)
