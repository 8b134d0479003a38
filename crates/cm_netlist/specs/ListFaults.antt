-- The numbers and the words of the faults of a network list.
use Rattle.std.specs.Prelude.{ℕ, List, codes}
use Rattle.cm_netlist.specs.declared.fault.NetFault.{NetFault}
use Rattle.cm_netlist.specs.declared.fault.NetFault.TheVariants.{NotToml, UnknownKey, MissingKey, WrongKind, OutOfRange, DoubleSlave}
use Rattle.cm_netlist.specs.declared.fault.NetFault.TheVariants.{OwnListed, NotListedBit, TooManyWrites, ValueTooWide, OutOfMemory}

-- the number of a fault (own)
abbrev pub number_of : NetFault → ℕ
number_of NotToml = 1
number_of UnknownKey = 2
number_of MissingKey = 3
number_of WrongKind = 4
number_of OutOfRange = 5
number_of DoubleSlave = 6
number_of OwnListed = 7
number_of NotListedBit = 8
number_of TooManyWrites = 9
number_of ValueTooWide = 10
number_of OutOfMemory = 11

-- the words of a fault (own)
abbrev pub words_of : NetFault → List ℕ
words_of NotToml = codes "not TOML"
words_of UnknownKey = codes "unknown key"
words_of MissingKey = codes "missing key"
words_of WrongKind = codes "wrong kind"
words_of OutOfRange = codes "out of range"
words_of DoubleSlave = codes "double slave"
words_of OwnListed = codes "own id listed"
words_of NotListedBit = codes "bit 0 clear"
words_of TooManyWrites = codes "too many writes"
words_of ValueTooWide = codes "value too wide"
words_of OutOfMemory = codes "out of memory"
