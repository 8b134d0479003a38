-- What an insert keeps of a network list.
use Rattle.std.proofs.Common.{◌≡◌, ◌∙◌, ℕ, sym, ap, subst, None, arith}
use Rattle.std.specs.Ordering.{nat_cmp}
use Rattle.std.specs.FinMap.{FinMap, from_sorted}
use Rattle.std.specs.BTreeMap.{insert_entry, BTreeMap}
use Rattle.cm_nmt.specs.NodeId.{IsNodeId}
use Rattle.cm_netlist.specs.Add.{add_fault}
use Rattle.cm_netlist.specs.Network.{Network, IsEntry, IsNetwork, with_entry}
use Rattle.cm_netlist.specs.NetworkView.{IsKept, view_of}
use Rattle.cm_netlist.specs.declared.entry.SlaveEntry.{SlaveEntry}
use Rattle.cm_netlist.specs.declared.network.Network.TheInside.{Inside}
use Rattle.cm_netlist.proofs.Maps.{insert-sorted, sorted-insert, IfSome-insert}

-- an entry with no fault may be added
pub IsEntry-from_no_fault : (net : Network) (k : ℕ) (e : SlaveEntry) → IsNodeId k → add_fault net k e ≡ None → IsEntry net.own k e
IsEntry-from_no_fault net k e node none = record {
  node = node;
  other = grind arith;
  listed = grind arith;
  fit = grind arith;
}

-- the map after the insert
pub view-insert : (n : Inside) (k : ℕ) (e : SlaveEntry) (m : BTreeMap ℕ SlaveEntry) → IsKept n → m.entries ≡ insert_entry nat_cmp n.slaves.entries k e → view_of (record n { slaves = m }) ≡ with_entry (view_of n) k e
view-insert n k e m kept is =
    ap (λ (s : FinMap nat_cmp SlaveEntry). record (view_of n) { slaves = s }) (ap (λ es. from_sorted es) is ∙ insert-sorted k e n.slaves.entries kept.sorted)

-- an insert of an entry that may be added keeps what every network list is
pub IsKept-insert : (n : Inside) (k : ℕ) (e : SlaveEntry) (m : BTreeMap ℕ SlaveEntry) → IsKept n → IsEntry n.own k e → m.entries ≡ insert_entry nat_cmp n.slaves.entries k e → IsKept (record n { slaves = m })
IsKept-insert n k e m kept ok is = record {
  sorted = rw is (sorted-insert k e n.slaves.entries kept.sorted);
  network = subst IsNetwork (sym (view-insert n k e m kept is)) (record {
    own = kept.network.own;
    entries = IfSome-insert (IsEntry n.own) _ k e kept.network.entries ok;
  });
}
