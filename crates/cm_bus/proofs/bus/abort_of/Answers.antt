use Rattle.std.proofs.Common.{refl}
use Rattle.cm_bus.proofs.bus.abort_of.Goals as goal

pub returns-in-None-clause-some : goal.returns-in-None-clause-some
returns-in-None-clause-some c = rw (c.in-Read.is, c.in-None.is) (84148224, refl, c.abort_frame.ensures)

pub returns-then-is_segmented-clause-some : goal.returns-then-is_segmented-clause-some
returns-then-is_segmented-clause-some c =
    let begins = c.is_segmented.ensures.yes c.if-is_segmented.true in
    rw (c.in-Read.is, c.in-Some.is) (84148225, (begins.0, begins.1, refl), c.abort_frame-then-is_segmented.ensures)

pub returns-else-is_segmented-clause-none : goal.returns-else-is_segmented-clause-none
returns-else-is_segmented-clause-none c = λ code h.
    let begins = rw (c.in-Read.is, c.in-Some.is) at h in c.is_segmented.ensures.no c.if-is_segmented.false begins.0 begins.1

pub returns-in-None-last-clause-some : goal.returns-in-None-last-clause-some
returns-in-None-last-clause-some c = rw (c.in-Write.is, c.in-None-last.is) (84148224, refl, c.abort_frame-in-None-last.ensures)
