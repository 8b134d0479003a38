use Rattle.std.proofs.Common.{List, ℕ, subst}
use Rattle.std.specs.Io.KnownBytes.{Appends}
use Rattle.canboot_picture.specs.Xml.{escaped}
use Rattle.canboot_picture.proofs.Puts.{then_last}
use Rattle.canboot_picture.proofs.spans.put_letter_at.Goals as goal

pub returns : goal.returns
returns g c =
    let a = g.W.Write.contents c.args.out.now in
    let b = g.W.Write.contents c.put_letter_head.new.out in
    let d = g.W.Write.contents c.put_escaped.new.out in
    let words = subst (λ (text : List ℕ). Appends b d (escaped text)) c.state_letter.ensures c.in_ok-put_escaped.ensures in
    then_last c.write_all.result a b _ _ _ c.in_ok-put_letter_head.ensures (then_last c.write_all.result b d _ _ _ words c.write_all.ensures.bytes)
