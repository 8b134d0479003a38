use Rattle.std.proofs.Common.{vec_capacity}
use base.Growing.{prefix_refl}
use Rattle.cm_register.proofs.Knowing.{is_known}
use Rattle.cm_register.proofs.seat.Seat.known.Goals as goal

pub returns-clause-known : goal.returns-clause-known
returns-clause-known g c =
    let s = c.self.inside in
    rw (← c.self.view_is) (is_known s.number s.list.items s.known s.viewed s.called c.self.invariant.5 s.known (prefix_refl s.known) (vec_capacity s.list) s.share.amount)
