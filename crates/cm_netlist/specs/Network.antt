-- The network list: the own node-ID, two objects, and a finite map from node-ID to entry.
use Rattle.std.specs.Prelude.{◌≡◌, ◌≢◌, ℕ, Bool, true, false, List, [], ◌∷◌, IfSome, Option, Some, None, is_some, option_map, length, refl}
use Rattle.std.specs.Coded.{Coded, code_by, coded×, coded_ℕ}
use Rattle.std.specs.Ordering.{nat_cmp}
use Rattle.std.specs.List.{filter}
use Rattle.std.specs.FinMap as map
use Rattle.std.specs.FinMap.{FinMap}
use Rattle.cm_nmt.specs.NodeId.{IsNodeId}
use Rattle.cm_nmt.specs.Listing.{Listing, node_ids}
use Rattle.cm_nmt.specs.Bits.{has_bit}
use Rattle.cm_nmt.specs.Write.{all_fit}
use Rattle.cm_netlist.specs.declared.entry.SlaveEntry.{SlaveEntry}
use Rattle.cm_nmt.specs.declared.terms.Terms.{Terms}

-- the own node-ID, 1F80h, 1F89h, and what is listed of each slave (CiA 302-2)
pub record Network : Type 0 where
  pub own : ℕ
  pub startup : ℕ
  pub boot_time : ℕ
  pub slaves : FinMap nat_cmp SlaveEntry

-- a list is stored as the tuple of its fields
abbrev pub network_code : Coded SlaveEntry → Coded Network
network_code entry_code =
    code_by (ℕ × (ℕ × (ℕ × FinMap nat_cmp SlaveEntry)))
    (coded× coded_ℕ (coded× coded_ℕ (coded× coded_ℕ (map.code coded_ℕ entry_code))))
    (λ n. (n.own, (n.startup, (n.boot_time, n.slaves))))
    (λ p. record { own = p.0; startup = p.1.0; boot_time = p.1.1.0; slaves = p.1.1.1 }) (λ _. refl)

-- what every entry of a network list keeps: its node-ID is one and not the own id, 1F81h bit 0 is
-- set (CiA 302-2, 1F81h), and the value of each write fits its size
pub record IsEntry (own id : ℕ) (e : SlaveEntry) : Type 0 where
  pub node : IsNodeId id
  pub other : own ≢ id
  pub listed : has_bit e.assignment.0 0 ≡ true
  pub fit : all_fit e.writes.items ≡ true

-- what every network list keeps
pub record IsNetwork (net : Network) : Type 0 where
  pub own : IsNodeId net.own
  pub entries : (i : ℕ) → IfSome (map.get net.slaves i) (λ e. IsEntry net.own i e)

-- the list with this entry at the node, all else as it was
abbrev pub with_entry : Network → ℕ → SlaveEntry → Network
with_entry net i e = record net { slaves = map.insert net.slaves i e }

-- what is listed of the node, if it is listed
abbrev pub entry : Network → ℕ → Option SlaveEntry
entry net i = map.get net.slaves i

-- the node is listed
abbrev pub is_listed : Network → ℕ → Bool
is_listed net i = is_some (entry net i)

-- bit k of the node's 1F81h, false for a node that isn't listed
abbrev pub bit_of : Network → ℕ → ℕ → Bool
bit_of net i k = entry_bit k (entry net i)
  where
    entry_bit : ℕ → Option SlaveEntry → Bool
    entry_bit k None = false
    entry_bit k (Some e) = has_bit e.assignment.0 k

-- the node is a mandatory slave (CiA 302-2, 1F81h bit 3)
abbrev pub is_mandatory : Network → ℕ → Bool
is_mandatory net i = bit_of net i 3

-- the node is a slave that is kept alive (CiA 302-2, 1F81h bit 4)
abbrev pub is_kept : Network → ℕ → Bool
is_kept net i = bit_of net i 4

-- an entry with the number of its writes in place of their list
abbrev pub terms_of : SlaveEntry → Terms
terms_of e = record {
  assignment = e.assignment;
  device_type = e.device_type;
  vendor = e.vendor;
  product = e.product;
  revision = e.revision;
  serial = e.serial;
  heartbeat_ms = e.heartbeat_ms;
  date = e.date;
  time = e.time;
  writes = length e.writes.items;
}

-- the terms of the node, if it is listed
abbrev pub terms : Network → ℕ → Option Terms
terms net i = option_map terms_of (entry net i)

-- the values that are expected of a slave, in order: device type, vendor-ID, product code, revision
-- number, serial number (CiA 302-2, 1F84h to 1F88h)
abbrev pub expected_of : SlaveEntry → List ℕ
expected_of e = e.device_type ∷ e.vendor ∷ e.product ∷ e.revision ∷ e.serial ∷ []

-- the values that are expected of the node, if it is listed
abbrev pub expected : Network → ℕ → Option (List ℕ)
expected net i = option_map expected_of (entry net i)

-- the listed nodes, in rising order
abbrev pub listed_ids : Network → List ℕ
listed_ids net = filter (is_listed net) node_ids

-- what a network list says, without the writes themselves
abbrev pub listing : Network → Listing
listing net = record { own = net.own; startup = net.startup; boot_time = net.boot_time; terms = terms net }
