-- Working definitions: no public contract cites them. What the walk that looks for the place of a fault finds on its way.
use Rattle.std.specs.Prelude.{◌==◌, ◌≡◌, ℕ, Bool, false, true, List, Option, Some, None, IsSomeAnd, codes, take}
use Rattle.std.specs.List.{list_any, slice_get}
use Rattle.toml.specs.Data.{Data, Members, as_table, get_member}
use Rattle.cm_netlist.specs.Document.{has_double, slave_has, slave_id, top_has, write_has, writes}
use Rattle.cm_netlist.specs.FaultPlaces.{HasByKey, slave_elements}
use Rattle.cm_netlist.specs.Keys.{slave_integers}
use Rattle.cm_netlist.specs.Table.{is_no_array, number_at, table_is, tables_in}
use Rattle.cm_netlist.specs.declared.fault.NetFault.{NetFault}
use Rattle.cm_netlist.specs.declared.fault.NetFault.TheVariants.{WrongKind, DoubleSlave, OwnListed, NotListedBit, TooManyWrites}
use Rattle.cm_netlist.specs.declared.list_faults.Spot.{Spot}
use Rattle.cm_netlist.specs.declared.list_faults.Spot.TheVariants as spot

-- there is a value, and it passes the test
abbrev pub holds : {A : Type 0} → (A → Bool) → Option A → Bool
holds p None = false
holds p (Some x) = p x

-- the table has the fault by the key of the array
abbrev pub array_has : NetFault → List ℕ → Members → Bool
array_has WrongKind a ms = is_no_array (get_member a ms)
array_has f a ms = false

-- the fault applies to the list itself, slaves of one id aside
abbrev pub top_itself_has : NetFault → Members → Bool
top_itself_has DoubleSlave ms = false
top_itself_has f ms = top_has f ms

-- a slave as a whole has the fault, in a list of this own id
abbrev pub is_of_all : NetFault → ℕ → Members → Bool
is_of_all OwnListed own t = slave_has OwnListed own t
is_of_all NotListedBit own t = slave_has NotListedBit own t
is_of_all TooManyWrites own t = slave_has TooManyWrites own t
is_of_all f own t = false

abbrev pub table_of : Option Data → Option Members
table_of None = None
table_of (Some d) = as_table d

-- the slave that is the element of this number
abbrev pub slave_at : Members → ℕ → Option Members
slave_at ms i = table_of (slice_get (slave_elements ms) i)

-- the fault applies to a slave, its id aside: as a whole, at the write of this number, or at a key
abbrev pub PartHas : NetFault → ℕ → Members → Spot → Type 0
PartHas f own t (spot.Element j) = IsSomeAnd (slice_get (writes t) j) (λ d. write_has f d ≡ true)
PartHas f own t spot.Itself = slave_has f own t ≡ true
PartHas f own t (spot.Double j) = ⊥
PartHas f own t s = HasByKey f slave_integers (codes "writes") t s

-- the fault applies to the slave `t`, the element of this number
abbrev pub slave_itself_has : NetFault → Members → ℕ → Members → Bool
slave_itself_has DoubleSlave ms i t = list_any (table_is (λ u. slave_id u == slave_id t)) (take i (slave_elements ms))
slave_itself_has f ms i t = slave_has f (number_at (codes "own") ms) t

-- the fault applies to one of these elements of `slave`, in a list of this own id
abbrev pub elements_have : NetFault → ℕ → List Data → Bool
elements_have DoubleSlave own ds = has_double (tables_in ds)
elements_have f own ds = list_any (table_is (slave_has f own)) ds
