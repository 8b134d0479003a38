use Rattle.std.proofs.Common.{ℕ, subst}
use Rattle.std.specs.List.{All}
use Rattle.std.proofs.lemmas.List.{take_all}
use Rattle.std.proofs.lemmas.List.Elements.{All-more}
use Rattle.canboot_scan.specs.Compared.{IsFoundAsListed}
use Rattle.canboot_scan.proofs.comparing.compare_slaves.Goals as goal

pub loop-id-preserved : goal.loop-id-preserved
loop-id-preserved c = λ none.
    let P : ℕ → Type 0 = IsFoundAsListed c.args.network.now c.args.found.now in
    let this = c.in_ok-compare_slave.ensures none in
    let before = c.loop-id.invariant this.0 in (
      before.0,
      All-more P c.args.ids.now c.loop-id.id-index c.id-item.result c.loop-id-test.true before.1 (subst P c.id-item.is this.1),
    )

pub returns : goal.returns
returns c = λ none.
    let P : ℕ → Type 0 = IsFoundAsListed c.args.network.now c.args.found.now in
    let before = c.loop-id.invariant none in
    (before.0, subst (All P) (take_all c.loop-id.id-index c.args.ids.now c.loop-id-test.false) before.1)
