use Rattle.std.proofs.Common.{arith, rules}
use Rattle.cm_telling.proofs.Entries.{none_more}
use Rattle.cm_telling.proofs.in_order.InOrder.place_of_next.Goals as goal

pub loop-place-preserved : goal.loop-place-preserved
loop-place-preserved g c = none_more c.args.self.now.waiting.items c.loop-place.place c.args.self.now.next c.index.result.now (omega arith) (search rules) (search rules) c.loop-place.invariant
