use Rattle.std.proofs.Common.{IsTrue, subst}
use Rattle.std.specs.List.{All}
use Rattle.std.proofs.lemmas.List.{take_all}
use Rattle.std.proofs.lemmas.List.Elements.{All-more}
use Rattle.cm_netlist.specs.Network.{is_listed}
use Rattle.canboot_scan.specs.declared.found.Found.{Found}
use Rattle.canboot_scan.proofs.comparing.compare_unlisted.Goals as goal

pub loop-one-preserved : goal.loop-one-preserved
loop-one-preserved c = λ none.
    let P : Found → Type 0 = λ f. IsTrue (is_listed c.args.network.now f.id) in
    let this = c.in_ok-compare_node.ensures none in
    let before = c.loop-one.invariant this.0 in (
      before.0,
      All-more P c.args.found.now c.loop-one.one-index c.one-item.result c.loop-one-test.true before.1 (subst P c.one-item.is this.1),
    )

pub returns : goal.returns
returns c = λ none.
    let P : Found → Type 0 = λ f. IsTrue (is_listed c.args.network.now f.id) in
    let before = c.loop-one.invariant none in
    (before.0, subst (All P) (take_all c.loop-one.one-index c.args.found.now c.loop-one-test.false) before.1)
