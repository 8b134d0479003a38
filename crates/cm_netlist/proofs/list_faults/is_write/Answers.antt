use Rattle.std.proofs.Common.{◌≡◌, ◌∙◌, ap, sym, not, ◌==◌, length, Some, arith, false, rules, tests}
use Rattle.std.proofs.lemmas.Grind.{common_steps}
use Rattle.std.proofs.lemmas.Iterator.{YieldsList-from_slice}
use Rattle.std.proofs.lemmas.Iterator.Search.{any_from_yields_List}
use Rattle.toml.specs.View.{view}
use Rattle.cm_netlist.specs.Table.{is_no_integer}
use Rattle.cm_netlist.proofs.Items.{any_of_array, write_of_array}
use Rattle.cm_netlist.proofs.list_faults.is_write.Goals as goal

pub returns-then-len-eq4 : goal.returns-then-len-eq4
returns-then-len-eq4 c =
    let four : length c.in-Array.values.items ≡ 4 = omega arith in
    let tested = any_from_yields_List (λ v. is_no_integer (Some (view v))) _ _ _ c.any.ensures.ran (YieldsList-from_slice c.deref.result.now cc) (λ x b q k. search (rules, tests)) in
    rw (write_of_array _ c.in-Array.values c.in-Array.is, four)
    (ap not (tested ∙ any_of_array (λ d. is_no_integer (Some d)) _ _ c.deref.ensures.value))

pub returns-else-len-eq4 : goal.returns-else-len-eq4
returns-else-len-eq4 c =
    let other : (length c.in-Array.values.items == 4) ≡ false = grind (arith, common_steps) in
    let here : (c.len.result == 4) ≡ false = grind (arith, common_steps) in
    here ∙ sym (rw (write_of_array _ c.in-Array.values c.in-Array.is, other))
