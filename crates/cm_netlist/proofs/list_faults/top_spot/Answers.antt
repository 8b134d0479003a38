use Rattle.std.proofs.Common.{◌≡◌, ◌∙◌, ap, false, rules, sym, tests, true}
use Rattle.std.specs.Prelude.{codes}
use Rattle.toml.specs.View.{table_view}
use Rattle.cm_netlist.specs.Document.{is_no_table, keys_have}
use Rattle.cm_netlist.specs.FaultPlaces.{slave_elements}
use Rattle.cm_netlist.specs.declared.fault.NetFault.TheVariants as net
use Rattle.cm_netlist.proofs.Finds.{found_any, found_passes, none_found}
use Rattle.cm_netlist.proofs.Walk.{top_wrong}
use Rattle.cm_netlist.proofs.list_faults.top_spot.Goals as goal

pub returns-in-Some-no_table-clause-place : goal.returns-in-Some-no_table-clause-place
returns-in-Some-no_table-clause-place c =
    let fault : c.args.fault ≡ net.WrongKind = search (rules, tests) in
    (fault, found_passes is_no_table (slave_elements (table_view c.args.table.now)) c.in-Some-no_table.place c.in-Some-no_table.ensures)

pub returns-in-Some-no_table-clause-applies : goal.returns-in-Some-no_table-clause-applies
returns-in-Some-no_table-clause-applies c =
    let ms = table_view c.args.table.now in
    let fault : c.args.fault ≡ net.WrongKind = search (rules, tests) in
    let keys = c.in_default.ensures.applies ∙ ap (λ ks. keys_have c.args.fault ks (codes "slave") ms) c.top_integers.ensures in
    top_wrong c.args.fault ms true fault keys (sym (found_any is_no_table (slave_elements ms) c.in-Some-no_table.place c.in-Some-no_table.ensures))

pub returns-in-None-clause-applies : goal.returns-in-None-clause-applies
returns-in-None-clause-applies c =
    let ms = table_view c.args.table.now in
    let fault : c.args.fault ≡ net.WrongKind = search (rules, tests) in
    let keys = c.in_default.ensures.applies ∙ ap (λ ks. keys_have c.args.fault ks (codes "slave") ms) c.top_integers.ensures in
    top_wrong c.args.fault ms false fault keys (sym (none_found is_no_table (slave_elements ms) (sym c.in-None.ensures)))
