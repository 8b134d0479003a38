use Rattle.std.specs.Prelude.{flat_map}
use Rattle.cm_text.proofs.Writes.{then_last}
use Rattle.cm_netlist.specs.Network.{listed_ids}
use Rattle.canboot_lists.specs.Explained.{list_warnings, manager_text, slave_text_of, slave_warnings_of}
use Rattle.canboot_lists.proofs.explaining.explain.Goals as goal

pub returns : goal.returns
returns g c =
    let net = c.args.network.now in
    let r = c.put_all_warnings.result in
    let a = g.W.Write.contents c.args.out.now in
    let b = g.W.Write.contents c.put_manager.new.out in
    let d = g.W.Write.contents c.put_slaves.new.out in
    let e = g.W.Write.contents c.put_list_warnings.new.out in
    let end = g.W.Write.contents c.put_all_warnings.new.out in
    let slaves = flat_map (slave_text_of net) (listed_ids net) in
    let all = flat_map (slave_warnings_of net) (listed_ids net) in
    let warnings = then_last r d e end (list_warnings net) all c.in_ok-put_list_warnings.ensures c.put_all_warnings.ensures in
    then_last r a b end (manager_text net) _ c.in_ok-put_manager.ensures (then_last r b d end slaves _ c.in_ok-put_slaves.ensures warnings)
