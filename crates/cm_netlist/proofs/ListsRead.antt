-- What was read of an input is the network list of its bytes.
use Rattle.std.proofs.Common.{ℕ, List}
use Rattle.std.specs.Prelude.{Option, Result, Ok, Err, IfOk, IfErr}
use Rattle.cm_text.specs.Input.{ReadsAll}
use Rattle.cm_netlist.specs.Network.{Network}
use Rattle.cm_netlist.specs.ListsRead.{IsFaulty, IsFaultOf, IsList, IsListOf}
use Rattle.cm_netlist.specs.declared.list_reading.CheckFault.{CheckFault}
use Rattle.cm_netlist.specs.declared.list_reading.CheckFault.TheVariants.{List as ListFault, Input as InputFault}

pub list_read : (input input' : Option (List ℕ)) (bytes : List ℕ) (net : Network) → ReadsAll 1048576 input input' bytes → IsListOf bytes net → IsList input input' net
list_read input input' bytes net read of = record {
  bytes = bytes;
  list = of.list;
  read = read;
  utf8 = of.utf8;
  parsed = of.parsed;
  faultless = of.faultless;
  named = of.named;
}

pub fault_read : (input input' : Option (List ℕ)) (bytes : List ℕ) (f : CheckFault) → ReadsAll 1048576 input input' bytes → IsFaultOf bytes f → IsFaulty input input' f
fault_read input input' bytes (ListFault f) read of = record { bytes = bytes; read = read; fault = of }
fault_read input input' bytes (InputFault f) read of = tt

pub lists_read : (input input' : Option (List ℕ)) (bytes : List ℕ) (r : Result Network CheckFault) → ReadsAll 1048576 input input' bytes → IfOk r (IsListOf bytes) → IfOk r (IsList input input')
lists_read input input' bytes (Ok net) read of = list_read input input' bytes net read of
lists_read input input' bytes (Err f) read of = tt

pub faults_read : (input input' : Option (List ℕ)) (bytes : List ℕ) (r : Result Network CheckFault) → ReadsAll 1048576 input input' bytes → IfErr r (IsFaultOf bytes) → IfErr r (IsFaulty input input')
faults_read input input' bytes (Ok net) read of = tt
faults_read input input' bytes (Err f) read of = fault_read input input' bytes f read of
