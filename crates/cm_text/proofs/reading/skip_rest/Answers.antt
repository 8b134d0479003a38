use Rattle.std.proofs.Common.{◌++◌, take, length-append, arith}
use Rattle.std.proofs.KnownBytes.{Consumes-trans}
use Rattle.cm_text.proofs.reading.skip_rest.Goals as goal

pub loop-preserved : goal.loop-preserved
loop-preserved g c =
    let so_far = c.loop.invariant in
    let more = take c.in-Ok.count c.read.new.buf in (
      so_far.0 ++ more,
      Consumes-trans _ _ _ _ _ so_far.1 c.in-Ok.ensures.bytes.0,
      omega (arith, length-append so_far.0 more, so_far.2, c.in-Ok.ensures.bound.1),
      omega (arith, so_far.3, c.if-count-most.false),
    )
