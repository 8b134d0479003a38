use Rattle.std.proofs.Common.{ℕ, length, subst}
use Rattle.std.specs.Io.KnownBytes.{Appends}
use Rattle.canboot_picture.specs.Spans.{label_text}
use Rattle.canboot_picture.proofs.Puts.{then_spans}
use Rattle.canboot_picture.proofs.spans.put_lane.Goals as goal

pub returns : goal.returns
returns g c = λ net entries columns.
    let a = g.W.Write.contents c.args.out.now in
    let b = g.W.Write.contents c.put_label.new.out in
    let label = subst (λ (n : ℕ). Appends a b (label_text c.args.row n)) c.get.ensures.value c.in_ok-put_label.ensures in
    then_spans c.put_spans.result net entries c.args.scale.now c.args.row c.args.id (length c.args.managers.now) a b _ label (c.put_spans.ensures net entries columns)
