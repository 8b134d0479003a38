use Rattle.std.proofs.Common.{◌<◌, ◌≤◌, ◌==◌, rules, sym, tests}
use Rattle.toml.specs.View.{table_view}
use Rattle.cm_netlist.specs.Document.{slave_id}
use Rattle.cm_netlist.specs.FaultPlaces.{slave_elements}
use Rattle.cm_netlist.specs.Table.{table_is}
use Rattle.cm_netlist.proofs.Finds.{found_before, none_before, none_found, not_before}
use Rattle.cm_netlist.proofs.Walk.{slave_with_id}
use Rattle.cm_netlist.proofs.list_faults.earlier_with_id.Goals as goal

pub returns-in-None-clause-applies : goal.returns-in-None-clause-applies
returns-in-None-clause-applies c =
    let els = slave_elements (table_view c.args.table.now) in
    sym (none_before (table_is (λ u. slave_id u == c.args.id)) els c.args.place (none_found (table_is (λ u. slave_id u == c.args.id)) els (sym c.in-None.ensures)))

pub returns-then-first-place-clause-place : goal.returns-then-first-place-clause-place
returns-then-first-place-clause-place c =
    let low : c.in-Some.first < c.args.place = search (rules, tests) in
    (low, slave_with_id (table_view c.args.table.now) c.in-Some.first c.args.id c.in-Some.ensures)

pub returns-then-first-place-clause-applies : goal.returns-then-first-place-clause-applies
returns-then-first-place-clause-applies c =
    let low : c.in-Some.first < c.args.place = search (rules, tests) in
    sym (found_before (table_is (λ u. slave_id u == c.args.id)) (slave_elements (table_view c.args.table.now)) c.in-Some.first c.args.place c.in-Some.ensures low)

pub returns-else-first-place-clause-applies : goal.returns-else-first-place-clause-applies
returns-else-first-place-clause-applies c =
    let high : c.args.place ≤ c.in-Some.first = search (rules, tests) in
    sym (not_before (table_is (λ u. slave_id u == c.args.id)) (slave_elements (table_view c.args.table.now)) c.in-Some.first c.args.place c.in-Some.ensures high)
