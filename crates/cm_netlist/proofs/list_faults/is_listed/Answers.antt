use Rattle.std.proofs.Common.{◌≡◌, ◌∙◌, nat_eq, false, rules, tests}
use Rattle.std.proofs.lemmas.Iterator.{YieldsList-from_slice}
use Rattle.std.proofs.lemmas.Iterator.Search.{any_from_yields_List}
use Rattle.std.specs.Cmp.Lexicographic.{pointwise}
use Rattle.cm_netlist.specs.ListKeys.{key_of}
use Rattle.cm_netlist.specs.Keys.{IntegerKey}
use Rattle.cm_netlist.proofs.Items.{any_of_map}
use Rattle.cm_netlist.proofs.list_faults.is_listed.Goals as goal

pub returns-else-eq : goal.returns-else-eq
returns-else-eq c =
    let tested = any_from_yields_List (λ k. pointwise nat_eq c.args.name.now (key_of k).name) _ _ _ c.any.ensures.ran (YieldsList-from_slice c.args.keys.now cc) (λ x b q k. search (rules, tests)) in
    let all = tested ∙ any_of_map (λ (k : IntegerKey). pointwise nat_eq c.args.name.now k.name) key_of _ in
    let other : pointwise nat_eq c.args.name.now c.args.array.now ≡ false = search (rules, tests) in
    rw other all
