use Rattle.std.proofs.Common.{ℕ, List, subst}
use Rattle.std.specs.Io.KnownBytes.{Appends}
use Rattle.canboot_picture.specs.Marks.{mark_head, mark_text}
use Rattle.canboot_picture.proofs.Puts.{then_last}
use Rattle.canboot_picture.proofs.mark.put_mark.Goals as goal

pub returns : goal.returns
unfolding mark_text
returns g c =
    let a = g.W.Write.contents c.args.out.now in
    let b = g.W.Write.contents c.put_head.new.out in
    let m = c.args.mark.now in
    let head = subst (λ (class : List ℕ). Appends a b (mark_head class m.x m.y m.width m.height)) c.class_words.ensures c.in_ok-put_head.ensures in
    then_last _ a b _ _ _ head (then_last _ _ _ _ _ _ c.in_ok-put_title.ensures c.put_label.ensures)
