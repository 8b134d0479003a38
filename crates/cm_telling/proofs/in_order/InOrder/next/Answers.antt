use Rattle.std.proofs.Common.{refl}
use Rattle.cm_telling.proofs.Entries.{told_more}
use Rattle.cm_telling.proofs.in_order.InOrder.next.Goals as goal

pub returns-clause-told : goal.returns-clause-told
returns-clause-told g c = λ arrived told holds.
    told_more c.args.self.now _ arrived told c.in-Some.place c.remove-placed.result holds c.in-Some.ensures.found c.remove-placed.ensures.value refl c.remove-placed.ensures.items
