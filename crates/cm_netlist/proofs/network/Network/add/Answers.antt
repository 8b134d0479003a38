use Rattle.std.proofs.Common.{◌≡◌, ◌∙◌, ap, None, arith}
use Rattle.std.proofs.lemmas.Grind.{common_steps}
use Rattle.cm_netlist.specs.Add.{add_fault}
use Rattle.cm_netlist.specs.Network.{with_entry}
use Rattle.cm_netlist.proofs.Inserts.{IsKept-insert, view-insert, IsEntry-from_no_fault}
use Rattle.cm_netlist.proofs.network.Network.add.Goals as goal

pub invariant_of-self-2 : goal.invariant_of-self-2
invariant_of-self-2 c =
    let none : add_fault c.args.self.now c.args.id c.args.entry ≡ None = grind (arith, common_steps) in
    IsKept-insert c.self.inside c.args.id c.args.entry c.insert.new.self c.self.invariant
    (rw (ap (λ net. net.own) c.self.view_is) (IsEntry-from_no_fault c.args.self.now c.args.id c.args.entry (rw c.get.ensures.value at c.get.ensures.range) none))
    (rw c.get.ensures.value at c.in-Ok.ensures.entries)

pub returns-clause-ok : goal.returns-clause-ok
returns-clause-ok c =
    view-insert c.self.inside c.args.id c.args.entry c.insert.new.self c.self.invariant (rw c.get.ensures.value at c.in-Ok.ensures.entries)
    ∙ ap (λ net. with_entry net c.args.id c.args.entry) c.self.view_is
