use Rattle.std.proofs.Common.{refl}
use Rattle.cm_telling.proofs.Entries.{came_more}
use Rattle.cm_telling.proofs.in_order.InOrder.take.Goals as goal

pub returns-clause-came : goal.returns-clause-came
returns-clause-came g c = λ arrived told holds. came_more c.args.self.now _ arrived told c.args.placed holds refl c.in_ok-push.ensures.items
