-- What simulated slaves do that slaves which agree with a network list don't (own).
use Rattle.std.specs.Prelude.{◌≡◌, ◌<◌, ◌==◌, ◌||◌, ◌&&◌, ℕ, Bool, true, false, not, List, [], ◌∷◌, if◌then◌else◌, min, position, replicate, slice_set, Option, Some, None, option_map}
use Rattle.std.specs.List.{list_any}
use Rattle.cm_nmt.specs.Bits.{has_bit}
use Rattle.cm_nmt.specs.declared.got.Got.{Got}
use Rattle.cm_nmt.specs.declared.got.Got.TheVariants as got
use Rattle.cm_nmt.specs.declared.write.Write.{Write}
use Rattle.cm_netlist.specs.Network.{Network, entry, is_listed, terms_of}
use Rattle.cm_netlist.specs.declared.entry.SlaveEntry.{SlaveEntry}
use Rattle.cm_history.specs.NodeSets.{has}
use Rattle.cm_run.specs.Slaves.{agreeing}
use Rattle.cm_run.specs.declared.slave.SimSlave.{SimSlave}
use Rattle.canboot_run.specs.declared.slave_faults.AbortedObject.{AbortedObject}
use Rattle.canboot_run.specs.declared.slave_faults.SlaveFaults.{SlaveFaults}
use Rattle.canboot_run.specs.declared.slave_faults.SlaveValue.{SlaveValue}
use Rattle.canboot_run.specs.declared.slave_faults.SlaveValue.TheVariants as value
use Rattle.canboot_run.specs.declared.slave_faults.WrongValue.{WrongValue}

-- the object doesn't exist (CiA 301, SDO abort code 0602 0000h)
abbrev pub no_object : Got
no_object = got.Abort 0x0602_0000

-- the slave, with another answer to the read of 1018h sub 1 to 4, which stands at place 0 to 3
abbrev pub with_identity : ℕ → Got → SimSlave → SimSlave
with_identity place answer s = record s { ids = slice_set s.ids place answer }

-- the slave, with another value of one object
abbrev pub with_value : SlaveValue → ℕ → SimSlave → SimSlave
with_value value.DeviceType v s = record s { device = got.Value v }
with_value value.Vendor v s = with_identity 0 (got.Value v) s
with_value value.Product v s = with_identity 1 (got.Value v) s
with_value value.Revision v s = with_identity 2 (got.Value v) s
with_value value.Serial v s = with_identity 3 (got.Value v) s
with_value value.Date v s = record s { date = got.Value v }
with_value value.Time v s = record s { time = got.Value v }

-- what the list expects of a slave there, 0 for nothing; the configuration date and time are compared where both are given (CiA 302-2, 1F84h
-- to 1F88h; CiA 302-3, 1F26h, 1F27h)
abbrev pub expected_value : SlaveEntry → SlaveValue → ℕ
expected_value e value.DeviceType = e.device_type
expected_value e value.Vendor = e.vendor
expected_value e value.Product = e.product
expected_value e value.Revision = e.revision
expected_value e value.Serial = e.serial
expected_value e value.Date = if e.time == 0 then 0 else e.date
expected_value e value.Time = if e.time == 0 then 0 else e.date

-- a boot of the slave compares this value: 1F81h has bit 2, so that it is asked what it is, and the list expects something there
abbrev pub is_compared : SlaveEntry → SlaveValue → Bool
is_compared e v = has_bit e.assignment.0 2 && not (expected_value e v == 0)

-- the slave of node i after one wrong value was set, which is that of a node
abbrev pub wrong_by : WrongValue → ℕ → SimSlave → SimSlave
wrong_by w i s = if w.id == i then with_value w.object w.value s else s

-- the slave of node i with each of its wrong values, of which a later one counts
unfoldable pub wrong_with : List WrongValue → ℕ → SimSlave → SimSlave
wrong_with [] i s = s
wrong_with (w ∷ ws) i s = wrong_with ws i (wrong_by w i s)

-- the slave, which aborts each read of the object with this index
abbrev pub aborting_reads : ℕ → SimSlave → SimSlave
aborting_reads index s =
    if index == 0x1000 then record s { device = no_object }
    else if index == 0x1018 then record s { ids = replicate 4 no_object }
    else if index == 0x1020 then record s { date = no_object; time = no_object }
    else s

-- the place of the first write of the object, if there is one
abbrev pub first_write : ℕ → List Write → Option ℕ
first_write index writes = position (λ w. w.index == index) writes

-- the slave, which acknowledges as many writes as stand before this place, and aborts the next; as before where there is none
abbrev pub aborting_from : Option ℕ → SimSlave → SimSlave
aborting_from None s = s
aborting_from (Some place) s = record s { write_limit = min place s.write_limit; write_fault = no_object }

-- the slave, which aborts the first of these writes that is of the object; a boot ends there
abbrev pub aborting_writes : ℕ → List Write → SimSlave → SimSlave
aborting_writes index writes s = aborting_from (first_write index writes) s

-- the slave of node i, which is written so, after one object was taken from it, which is that of a node
abbrev pub aborting_by : AbortedObject → ℕ → List Write → SimSlave → SimSlave
aborting_by a i writes s = if a.id == i then aborting_writes a.index writes (aborting_reads a.index s) else s

-- the slave of node i, without each of its objects that are aborted
unfoldable pub aborting : List AbortedObject → ℕ → List Write → SimSlave → SimSlave
aborting [] i writes s = s
aborting (a ∷ rest) i writes s = aborting rest i writes (aborting_by a i writes s)

-- the slave of a listed node: it answers what is expected but for its wrong values, and aborts what it is to abort
abbrev pub slave_of_entry : SlaveFaults → ℕ → SlaveEntry → SimSlave
slave_of_entry f i e = aborting f.aborted.items i e.writes.items (wrong_with f.wrong.items i (agreeing (terms_of e)))

-- the slave of a node: none where the node is silent or isn't listed
unfoldable pub slave_given : Network → SlaveFaults → ℕ → Option SimSlave
slave_given net f i = if has f.silent i then None else option_map (slave_of_entry f i) (entry net i)

-- it is said of the node that it dies, is wrong or aborts
abbrev pub names : SlaveFaults → ℕ → Bool
names f i = has f.dying i || list_any (λ w. w.id == i) f.wrong.items || list_any (λ a. a.id == i) f.aborted.items

-- it is so said of the node, which isn't listed
abbrev pub is_unlisted : Network → SlaveFaults → ℕ → Bool
is_unlisted net f i = names f i && not (is_listed net i)

-- of each node of which it is so said, an entry is listed
abbrev pub AreListed : Network → SlaveFaults → Type 0
AreListed net f = (i : ℕ) → 0 < i → i < 128 → is_unlisted net f i ≡ false

-- the node is the first of those that aren't listed
pub record IsFirstUnlisted (net : Network) (f : SlaveFaults) (i : ℕ) : Type 0 where
  pub unlisted : is_unlisted net f i ≡ true
  pub before : (j : ℕ) → 0 < j → j < i → is_unlisted net f j ≡ false
