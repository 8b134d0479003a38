use Rattle.std.proofs.Common.{◌∙◌, ap, rules, tests}
use Rattle.std.proofs.lemmas.Iterator.{YieldsList-from_slice}
use Rattle.std.proofs.lemmas.Iterator.Search.{position_from_yields_List}
use Rattle.std.specs.List.{position}
use Rattle.toml.specs.View.{view}
use Rattle.cm_netlist.specs.Document.{is_no_table}
use Rattle.cm_netlist.proofs.Finds.{position_map}
use Rattle.cm_netlist.proofs.list_faults.no_table.Goals as goal

pub returns : goal.returns
returns c =
    let tested = position_from_yields_List (λ v. is_no_table (view v)) _ _ _ c.position.ensures.ran (YieldsList-from_slice c.elements_at.result.now cc) (λ x b q k. search (rules, tests)) in
    tested ∙ position_map is_no_table (λ v. view v) _ ∙ ap (position is_no_table) c.elements_at.ensures
