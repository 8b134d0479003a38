use Rattle.std.proofs.Common.{◌∙◌, ap, sym, map, Some, option_map, Bor}
use Rattle.toml.specs.Data.{Data}
use Rattle.toml.specs.View.{view}
use Rattle.toml.specs.declared.value.Value.{Value}
use Rattle.cm_netlist.specs.Table.{elements}
use Rattle.cm_netlist.proofs.Items.{list_of_view, data_of_array}
use Rattle.cm_netlist.proofs.list_values.elements_at.Goals as goal

pub returns-in-Some-Array : goal.returns-in-Some-Array
returns-in-Some-Array c =
    let a = c.in-Some-Array in
    let found = sym c.value_at.ensures ∙ ap (option_map (λ (v : Bor Value). view v.now)) a.is ∙ ap (λ (d : Data). Some d) (data_of_array _ a.values a.field-0-is) in
    ap (map (λ v. view v)) (c.as_slice.ensures.value ∙ ap (λ vs. vs.items) a.values-is) ∙ list_of_view a.values.items ∙ sym (ap elements found)
