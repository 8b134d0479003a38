use Rattle.std.proofs.Common.{List, ℕ, subst}
use Rattle.std.specs.Prelude.{IfErr, IfOk}
use Rattle.cm_netlist.specs.ListsRead.{IsFaultOf, IsListOf}
use Rattle.cm_netlist.proofs.ListsRead.{faults_read, lists_read}
use Rattle.cm_netlist.proofs.list_reading.read_list.Goals as goal

pub returns-clause-list : goal.returns-clause-list
returns-clause-list g c =
    lists_read _ _ c.in-Ok.bytes.items c.list_of.result c.in-Ok.ensures
    (subst (λ (bytes : List ℕ). IfOk c.list_of.result (IsListOf bytes)) c.as_slice.ensures.value c.list_of.ensures.list)

pub returns-clause-faulty : goal.returns-clause-faulty
returns-clause-faulty g c =
    faults_read _ _ c.in-Ok.bytes.items c.list_of.result c.in-Ok.ensures
    (subst (λ (bytes : List ℕ). IfErr c.list_of.result (IsFaultOf bytes)) c.as_slice.ensures.value c.list_of.ensures.faulty)
