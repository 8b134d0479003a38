use Rattle.std.proofs.Common.{◌≡◌, ◌∙◌, ◌<◌, ◌≤◌, ap, arith, length, sym}
use Rattle.std.proofs.lemmas.List.{length-map}
use Rattle.toml.specs.View.{table_view, view}
use Rattle.cm_netlist.specs.FaultPlaces.{slave_elements}
use Rattle.cm_netlist.proofs.Walk.{none_walked, nowhere, slave_applies, top_applies}
use Rattle.cm_netlist.proofs.list_faults.fault_place.Goals as goal

pub returns-in-Some-clause-applies : goal.returns-in-Some-clause-applies
returns-in-Some-clause-applies c = top_applies c.args.fault (table_view c.args.table.now) c.in-Some.ensures.applies

pub returns-in-Some-slave_spot-clause-applies : goal.returns-in-Some-slave_spot-clause-applies
returns-in-Some-slave_spot-clause-applies c = slave_applies c.args.fault (table_view c.args.table.now) c.loop-place.place c.in-Some-slave_spot.ensures.applies

pub loop-place-preserved : goal.loop-place-preserved
loop-place-preserved c =
    let ms = table_view c.args.table.now in
    let all : length c.elements_at-place-end.result.now ≡ length (slave_elements ms) = sym (length-map c.elements_at-place-end.result.now (λ v. view v)) ∙ ap length c.elements_at-place-end.ensures in
    let inside : c.loop-place.place < length (slave_elements ms) = omega (arith, all, c.loop-place-test.true) in
    none_walked c.args.fault ms c.loop-place.place inside c.loop-place.invariant c.in_default-slave_spot.ensures.applies

pub returns-clause-applies : goal.returns-clause-applies
returns-clause-applies c =
    let ms = table_view c.args.table.now in
    let all : length c.elements_at-place-end.result.now ≡ length (slave_elements ms) = sym (length-map c.elements_at-place-end.result.now (λ v. view v)) ∙ ap length c.elements_at-place-end.ensures in
    let end : length (slave_elements ms) ≤ c.loop-place.place = omega (arith, all, c.loop-place-test.false) in
    nowhere c.args.fault ms c.loop-place.place end c.in_default.ensures.applies c.loop-place.invariant
