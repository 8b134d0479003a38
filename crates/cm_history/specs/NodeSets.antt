-- What a set of node-IDs holds.
use Rattle.std.specs.Prelude.{ℕ, Bool, ◌==◌, List, filter}
use Rattle.std.specs.Int.{bit_at}
use Rattle.cm_nmt.specs.Listing.{node_ids}
use Rattle.cm_history.specs.declared.node_set.NodeSet.{NodeSet}

-- node i is in the set
abbrev pub has : NodeSet → ℕ → Bool
has s i = bit_at s.members i == 1

-- the nodes in the set, in rising order
abbrev pub members_of : NodeSet → List ℕ
members_of s = filter (has s) node_ids
