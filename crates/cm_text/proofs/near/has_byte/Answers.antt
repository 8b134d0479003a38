use Rattle.std.proofs.Common.{refl, eqb, get_or}
use Rattle.cm_text.proofs.Heads.{held_more}
use Rattle.cm_text.proofs.near.has_byte.Goals as goal

pub loop-at-preserved : goal.loop-at-preserved
loop-at-preserved c =
    held_more c.args.byte c.args.text.now c.loop-at.at c.loop-at.held (eqb (get_or c.args.text.now c.loop-at.at 0) c.args.byte) c.loop-at-test.true refl c.loop-at.invariant
