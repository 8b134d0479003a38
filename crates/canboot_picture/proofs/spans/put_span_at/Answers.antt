use Rattle.canboot_picture.proofs.Puts.{then_last}
use Rattle.canboot_picture.proofs.spans.put_span_at.Goals as goal

pub returns : goal.returns
returns g c = then_last _ _ _ _ _ _ c.in_ok-put_head.ensures (then_last _ _ _ _ _ _ c.in_ok-put_title.ensures c.put_letter.ensures)
