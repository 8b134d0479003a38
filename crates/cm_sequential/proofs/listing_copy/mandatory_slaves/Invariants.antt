use Rattle.std.proofs.Common.{◌≡◌, ℕ, ◌&&◌}
use Rattle.std.specs.Prelude.{nat_lt}
use Rattle.cm_nmt.specs.Listing.{is_mandatory}
use Rattle.cm_netlist.specs.Network.{listing}
use Rattle.cm_history.specs.NodeSets.{has}
use Rattle.cm_sequential.proofs.listing_copy.mandatory_slaves.Given as goal

-- the mandatory slaves so far
abbrev pub invariant-loop-node : goal.invariant-loop-node
invariant-loop-node l = (i : ℕ) → has l.slaves i ≡ (nat_lt i l.node && is_mandatory (listing l.net) i)
