use Rattle.std.proofs.Common.{List, ℕ, subst}
use Rattle.std.specs.Io.KnownBytes.{Appends}
use Rattle.canboot_picture.specs.Xml.{escaped}
use Rattle.canboot_picture.proofs.Puts.{then_last}
use Rattle.canboot_picture.proofs.spans.put_title.Goals as goal

pub returns : goal.returns
returns g c =
    let a = g.W.Write.contents c.args.out.now in
    let b = g.W.Write.contents c.put_title_head.new.out in
    let d = g.W.Write.contents c.put_escaped.new.out in
    let words = subst (λ (text : List ℕ). Appends b d (escaped text)) c.state_words.ensures c.in_ok-put_escaped.ensures in
    then_last c.put_title_end.result a b _ _ _ c.in_ok-put_title_head.ensures (then_last c.put_title_end.result b d _ _ _ words c.put_title_end.ensures)
