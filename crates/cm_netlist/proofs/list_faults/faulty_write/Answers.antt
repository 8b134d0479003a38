use Rattle.std.proofs.Common.{◌∙◌, ap, rules, tests}
use Rattle.std.proofs.lemmas.Iterator.{YieldsList-from_slice}
use Rattle.std.proofs.lemmas.Iterator.Search.{position_from_yields_List}
use Rattle.std.specs.List.{position}
use Rattle.toml.specs.View.{view}
use Rattle.cm_netlist.specs.Document.{write_has}
use Rattle.cm_netlist.proofs.Finds.{position_map}
use Rattle.cm_netlist.proofs.list_faults.faulty_write.Goals as goal

pub returns : goal.returns
returns c =
    let tested = position_from_yields_List (λ v. write_has c.args.fault (view v)) _ _ _ c.position.ensures.ran (YieldsList-from_slice c.elements_at.result.now cc) (λ x b q k. search (rules, tests)) in
    tested ∙ position_map (write_has c.args.fault) (λ v. view v) _ ∙ ap (position (write_has c.args.fault)) c.elements_at.ensures
