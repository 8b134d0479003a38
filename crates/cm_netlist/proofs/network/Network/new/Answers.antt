use Rattle.std.proofs.Common.{sym, refl, subst, IfSome, Option}
use Rattle.cm_netlist.specs.Network.{IsEntry}
use Rattle.cm_netlist.specs.declared.entry.SlaveEntry.{SlaveEntry}
use Rattle.cm_netlist.proofs.Maps.{from_sorted-empty, get-of_none}
use Rattle.cm_netlist.proofs.network.Network.new.Goals as goal

pub invariant_of-result : goal.invariant_of-result
invariant_of-result c = record {
  sorted = rw c.new.ensures.empty refl;
  network = record {
    own = rw c.get-in_range.ensures.value at c.get-in_range.ensures.range;
    entries = λ i. subst (λ (o : Option SlaveEntry). IfSome o (IsEntry c.args.own i)) (sym (get-of_none _ c.new.ensures.empty i)) tt;
  };
}

pub returns-clause-slaves : goal.returns-clause-slaves
returns-clause-slaves c = from_sorted-empty _ c.new.ensures.empty
