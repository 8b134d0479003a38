use Rattle.std.proofs.Common.{List, ℕ, inr, subst}
use Rattle.cm_netlist.specs.ListsRead.{IsListOf}
use Rattle.cm_netlist.proofs.ListsRead.{list_read}
use Rattle.canboot_faults.proofs.OutputStatus.{done_written}
use Rattle.canboot_lists.proofs.explain.explain_text.Goals as goal

pub returns-in-Ok-list_of-clause-done : goal.returns-in-Ok-list_of-clause-done
returns-in-Ok-list_of-clause-done g c = λ e.
    let net = c.in-Ok-list_of.network in
    record {
      net = net;
      list =
          list_read _ _ c.in-Ok.bytes.items net c.in-Ok.ensures
          (subst (λ (bytes : List ℕ). IsListOf bytes net) c.as_slice.ensures.value c.in-Ok-list_of.ensures.list);
      written = done_written c.put_explained.result _ c.output_status.result c.put_explained.ensures c.output_status.ensures e;
    }

pub returns-in-Ok-list_of-clause-failed : goal.returns-in-Ok-list_of-clause-failed
returns-in-Ok-list_of-clause-failed g c = λ e.
    let net = c.in-Ok-list_of.network in
    inr (
      net,
      list_read _ _ c.in-Ok.bytes.items net c.in-Ok.ensures
          (subst (λ (bytes : List ℕ). IsListOf bytes net) c.as_slice.ensures.value c.in-Ok-list_of.ensures.list),
    )
