use Rattle.std.proofs.Common.{◌∙◌, ◌||◌, ap, map, sym, Some, None}
use Rattle.std.proofs.lemmas.Bool.{or_left}
use Rattle.std.specs.List.{list_any}
use Rattle.toml.specs.View.{table_view}
use Rattle.cm_netlist.specs.Document.{integer_has}
use Rattle.cm_netlist.specs.ListKeys.{key_of}
use Rattle.cm_netlist.proofs.Walk.{has_integer, integer_found, no_array}
use Rattle.cm_netlist.proofs.list_faults.value_spot.Goals as goal

pub returns-then-array_has-clause-place : goal.returns-then-array_has-clause-place
returns-then-array_has-clause-place c = no_array c.args.fault c.args.array.now (table_view c.args.table.now) (sym c.array_has.ensures ∙ c.if-array_has.true)

pub returns-then-array_has-clause-applies : goal.returns-then-array_has-clause-applies
returns-then-array_has-clause-applies c = sym (or_left _ _ (sym c.array_has.ensures ∙ c.if-array_has.true))

pub returns-in-Some-clause-place : goal.returns-in-Some-clause-place
returns-in-Some-clause-place c = has_integer c.args.fault c.args.keys.now (table_view c.args.table.now) c.in-Some.key c.in-Some.ensures

pub returns-in-Some-clause-applies : goal.returns-in-Some-clause-applies
returns-in-Some-clause-applies c =
    let ms = table_view c.args.table.now in
    integer_found c.args.fault c.args.keys.now ms (Some c.in-Some.key) c.in-Some.ensures
    ∙ ap (λ b. b || list_any (integer_has c.args.fault ms) (map key_of c.args.keys.now)) (sym (sym c.array_has.ensures ∙ c.if-array_has.false))

pub returns-in-None-clause-applies : goal.returns-in-None-clause-applies
returns-in-None-clause-applies c =
    let ms = table_view c.args.table.now in
    integer_found c.args.fault c.args.keys.now ms None c.in-None.ensures
    ∙ ap (λ b. b || list_any (integer_has c.args.fault ms) (map key_of c.args.keys.now)) (sym (sym c.array_has.ensures ∙ c.if-array_has.false))
