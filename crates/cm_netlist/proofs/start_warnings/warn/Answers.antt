use Rattle.std.proofs.Common.{◌∙◌, subst}
use Rattle.std.specs.Prelude.{flat_map}
use Rattle.std.specs.Io.KnownBytes.{Appends}
use Rattle.std.proofs.KnownBytes.{Appends-nil}
use Rattle.cm_netlist.specs.StartWarnings.{told_warnings_of}
use Rattle.cm_netlist.proofs.Lines.{of_all, one_more}
use Rattle.cm_netlist.proofs.start_warnings.warn.Goals as goal

pub loop-id-init : goal.loop-id-init
loop-id-init g c = Appends-nil (g.W.Write.contents c.args.out.now)

pub loop-id-preserved : goal.loop-id-preserved
loop-id-preserved g c =
    one_more (told_warnings_of c.args.front.now c.args.network.now) c.as_slice-id-items.result.now c.loop-id.id-index c.id-item.result _ _ _ c.loop-id-test.true
    c.id-item.is c.loop-id.invariant c.in_ok-put_told_warnings_of.ensures

pub returns : goal.returns
returns g c =
    let text = told_warnings_of c.args.front.now c.args.network.now in
    let all = of_all text c.as_slice-id-items.result.now c.loop-id.id-index _ _ c.loop-id-test.false c.loop-id.invariant in
    subst (λ ids. Appends (g.W.Write.contents c.args.out.now) (g.W.Write.contents c.loop-id.out) (flat_map text ids))
    (c.as_slice-id-items.ensures.value ∙ c.listed_ids.ensures) all
