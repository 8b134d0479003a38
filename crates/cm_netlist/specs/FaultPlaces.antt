-- Where a fault of a network list applies, by the definitions of its faults (own).
use Rattle.std.specs.Prelude.{◌≡◌, ◌<◌, ℕ, true, false, List, Contains, IsSomeAnd, Option, Some, None, codes}
use Rattle.std.specs.List.{slice_get}
use Rattle.toml.specs.Data.{Data, Members, table, get_member}
use Rattle.cm_netlist.specs.Document.{integer_has, is_no_table, slave_has, slave_id, write_has, writes}
use Rattle.cm_netlist.specs.Keys.{IntegerKey, is_listed, slave_integers, top_integers}
use Rattle.cm_netlist.specs.Table.{elements, is_no_array, number_at}
use Rattle.cm_netlist.specs.declared.fault.NetFault.{NetFault}
use Rattle.cm_netlist.specs.declared.fault.NetFault.TheVariants as net
use Rattle.cm_netlist.specs.ListKeys.{key_of}
use Rattle.cm_netlist.specs.declared.list_faults.FaultPlace.{FaultPlace}
use Rattle.cm_netlist.specs.declared.list_faults.Spot.{Spot}
use Rattle.cm_netlist.specs.declared.list_faults.Spot.TheVariants as spot

-- ---- of a table, by its keys: those of integers, and one of an array

-- it is an unknown key, and this one is none of those
abbrev pub IsUnknown : NetFault → List IntegerKey → List ℕ → List ℕ → Type 0
IsUnknown f ks a name = (f ≡ net.UnknownKey) × (is_listed ks a name ≡ false)

-- the table has the fault by this key of an integer, which is one of those
abbrev pub HasInteger : NetFault → List IntegerKey → Members → IntegerKey → Type 0
HasInteger f ks ms k = Contains ks k × (integer_has f ms k ≡ true)

-- it is a wrong kind, and so is the value of the array's key
abbrev pub HasNoArray : NetFault → List ℕ → Members → Type 0
HasNoArray f a ms = (f ≡ net.WrongKind) × (is_no_array (get_member a ms) ≡ true)

-- the fault applies to the table at this key
abbrev pub HasByKey : NetFault → List IntegerKey → List ℕ → Members → Spot → Type 0
HasByKey f ks a ms (spot.Unknown name) = IsUnknown f ks a name.now
HasByKey f ks a ms (spot.Integer k) = HasInteger f ks ms (key_of k)
HasByKey f ks a ms spot.Array = HasNoArray f a ms
HasByKey f ks a ms (spot.Element i) = ⊥
HasByKey f ks a ms spot.Itself = ⊥
HasByKey f ks a ms (spot.Double j) = ⊥

-- ---- of the list

-- the elements of `slave`
abbrev pub slave_elements : Members → List Data
slave_elements ms = elements (get_member (codes "slave") ms)

-- a value is a table of which this holds
abbrev pub TableIs : (Members → Type 0) → Data → Type 0
TableIs P (table s) = P s
TableIs P d = ⊥

-- the element of `slave` of this number is a table of which this holds
abbrev pub SlaveIs : Members → ℕ → (Members → Type 0) → Type 0
SlaveIs ms i P = IsSomeAnd (slice_get (slave_elements ms) i) (TableIs P)

-- the fault applies to the list itself: at a key, or at the element of `slave` of this number, which is no table
abbrev pub TopHas : NetFault → Members → Spot → Type 0
TopHas f ms (spot.Element i) = (f ≡ net.WrongKind) × IsSomeAnd (slice_get (slave_elements ms) i) (λ d. is_no_table d ≡ true)
TopHas f ms s = HasByKey f top_integers (codes "slave") ms s

-- the fault applies to the slave `t`, the element of this number of the list `ms`: at a key; at the write of this number; as a
-- whole; or since the earlier slave of this number has its id
abbrev pub SlaveHas : NetFault → Members → ℕ → Members → Spot → Type 0
SlaveHas f ms i t (spot.Element j) = IsSomeAnd (slice_get (writes t) j) (λ d. write_has f d ≡ true)
SlaveHas f ms i t spot.Itself = slave_has f (number_at (codes "own") ms) t ≡ true
SlaveHas f ms i t (spot.Double j) = (f ≡ net.DoubleSlave) × ((j < i) × SlaveIs ms j (λ u. slave_id u ≡ slave_id t))
SlaveHas f ms i t s = HasByKey f slave_integers (codes "writes") t s

-- the fault applies to the list here
abbrev pub IsPlaceIn : NetFault → Members → Option ℕ → Spot → Type 0
IsPlaceIn f ms None s = TopHas f ms s
IsPlaceIn f ms (Some i) s = SlaveIs ms i (λ t. SlaveHas f ms i t s)

abbrev pub IsPlace : NetFault → Members → FaultPlace → Type 0
IsPlace f ms p = IsPlaceIn f ms p.slave p.spot
