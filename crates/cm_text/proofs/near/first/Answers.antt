use Rattle.cm_text.proofs.Ends.{is_first, too_short, goes_on}
use Rattle.cm_text.proofs.near.first.Goals as goal

pub returns-then-bytes-width : goal.returns-then-bytes-width
returns-then-bytes-width c = too_short 32 c.args.width c.args.bytes.now c.if-bytes-width.true

pub returns-in-Some : goal.returns-in-Some
returns-in-Some c =
    let cut = c.split_at.ensures in
    rw cut.front (is_first c.args.width c.args.bytes.now _ c.if-bytes-width.false (rw (← cut.back) c.in-Some.ensures))

pub returns-in-None : goal.returns-in-None
returns-in-None c = goes_on 32 c.args.width c.args.bytes.now (rw (← c.split_at.ensures.back) c.in-None.ensures)
