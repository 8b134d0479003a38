use Rattle.std.proofs.Common.{◌==◌, ◌∙◌, ap, rules, tests}
use Rattle.std.proofs.lemmas.Iterator.{YieldsList-from_slice}
use Rattle.std.proofs.lemmas.Iterator.Search.{position_from_yields_List}
use Rattle.std.specs.List.{position}
use Rattle.toml.specs.View.{view}
use Rattle.cm_netlist.specs.Document.{slave_id}
use Rattle.cm_netlist.specs.Table.{table_is}
use Rattle.cm_netlist.proofs.Finds.{position_map}
use Rattle.cm_netlist.proofs.list_faults.first_with_id.Goals as goal

pub returns : goal.returns
returns c =
    let tested = position_from_yields_List (λ v. table_is (λ u. slave_id u == c.args.id) (view v)) _ _ _ c.position.ensures.ran (YieldsList-from_slice c.elements_at.result.now cc) (λ x b q k. search (rules, tests)) in
    tested ∙ position_map (table_is (λ u. slave_id u == c.args.id)) (λ v. view v) _ ∙ ap (position (table_is (λ u. slave_id u == c.args.id))) c.elements_at.ensures
