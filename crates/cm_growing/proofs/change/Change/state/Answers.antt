use Rattle.std.proofs.Common.{sym, ◌∙◌, arith}
use Rattle.std.proofs.lemmas.Bool.Decides.{nat_tests}
use Rattle.cm_growing.proofs.Showing.{left_is}
use Rattle.cm_growing.proofs.change.Change.state.Goals as goal

pub returns-else-eq-2 : goal.returns-else-eq-2
returns-else-eq-2 c = λ net before change low small is.
    let d = c.args.self.now in
    c.left.ensures ∙ left_is net before d.entry.now d.node d.value d.own d.own_value change c.args.id c.args.state low small (grind (nat_tests, arith, sym c.if-eq-2.ensures)) (sym c.if-eq.ensures) is
