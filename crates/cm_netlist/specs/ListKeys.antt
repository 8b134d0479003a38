-- The keys of the code, as the definitions of a network list have them.
use Rattle.cm_netlist.specs.Keys.{IntegerKey}
use Rattle.cm_netlist.specs.declared.list_keys.IntegerKey.{IntegerKey as CodeKey}

-- what a key of the code stands for
abbrev pub key_of : CodeKey → IntegerKey
key_of k = record { name = k.name.now; least = k.least; greatest = k.greatest; needed = k.needed }
